-- What of a description stays when an instruction changes the processor, the latches and memory: the chain, its floors
-- and what is bound to them. And a greater state describes too, part by part: at an inside site where the changes of
-- the call leave it as it is.
use Rattle.std.proofs.Common.{◌≡◌, ℕ, zero, suc, ◌^◌, ◌<◌, ◌&&◌, Bool, true, false, List, [], ◌∷◌, length, get_or, Option, Some, None, IsSomeAnd, slice_get, refl, sym, subst, arith}
use Rattle.std.proofs.lemmas.Bool.{and_parts}
use Rattle.std.proofs.lemmas.List.Elements.{All-get_or}
use Rattle.kc_lattice.specs.Rows.{rows_below}
use Rattle.kc_frames.specs.Floors.{IsFloor, FloorStands, floor_below, floor_top, floors_below}
use Rattle.kc_frames.specs.FloorsLaws.{floor_grows}
use Rattle.kc_insn.specs.declared.insn.Insn.{Insn}
use Rattle.kc_regions.specs.Description.{Description}
use Rattle.kc_regions.specs.Valid.{IsValid}
use Rattle.kc_regions.specs.declared.entry.Handler.{Handler}
use Rattle.kc_cpu.specs.declared.cpu.Call.{Call}
use Rattle.kc_cpu.specs.declared.cpu.Cpu.{Cpu}
use Rattle.kc_cpu.specs.declared.cpu.Latch.{Latch}
use Rattle.kc_cpu.specs.declared.cpu.Mode.{Mode}
use Rattle.kc_cpu.specs.declared.cpu.Mode.TheVariants.{User, Code, Inside}
use Rattle.kc_mem.specs.Memory.{Bytes, AreBytes}
use Rattle.kc_exec.specs.declared.state.Activation.{Activation}
use Rattle.kc_exec.specs.declared.state.State.{State}
use Rattle.kc_space.specs.Latches.{latches_below, tri_below}
use Rattle.kc_space.specs.LatchesLaws.{tri_grows}
use Rattle.kc_space.specs.Spaces.{gs_below, who_below, map_below}
use Rattle.kc_space.specs.SpacesLaws.{who_grows, map_grows}
use Rattle.kc_space.specs.declared.gs.GsPair.{GsPair}
use Rattle.kc_space.specs.declared.latches.Latches.{Latches}
use Rattle.kc_value.specs.Value.{IsValidValue, Represents, value_below, value_top}
use Rattle.kc_value.specs.ValueLaws.{value_grows, value_laws}
use Rattle.kc_value.specs.declared.env.ValueEnv.{ValueEnv}
use Rattle.kc_state.specs.Calls.{called}
use Rattle.kc_state.specs.Moment.{cpu_of}
use Rattle.kc_state.specs.State.{IsState, state_below}
use Rattle.kc_state.specs.declared.key.Key.{Key}
use Rattle.kc_state.specs.declared.site.Site.{Site}
use Rattle.kc_state.specs.declared.state.AbsState.{AbsState}
use Rattle.kc_state.proofs.StackLemmas.{stack_below}
use Rattle.kc_describes.specs.Chain.{newest_of, env_of}
use Rattle.kc_describes.specs.Describes.{AreBaseSlotsTop, IsInsideAt, IsAtPoint, Describes}
use Rattle.kc_describes.specs.Fits.{IsKernelCpu}
use Rattle.kc_describes.specs.Inside.{IsHandlerRunning}
use Rattle.kc_describes.specs.Places.{FloorsStand, SlotsStand}
use Rattle.kc_describes.specs.Row.{value_at, RegistersStand, FileStands, RowStands}
use Rattle.kc_describes.specs.Spaces.{GsStands, LatchesStand, gs_env, cr3_env}
use Rattle.kc_describes.specs.Widths.{IsCpu}
use Rattle.kc_describes.proofs.OperandLemmas.{IsSeen}
use Rattle.kc_describes.proofs.ValidLemmas.{top_valid}

-- ---- code sites

abbrev pub code : ℕ → Site
code t = record { at = t; inside = false }

-- the file of kernel code
pub code_file : (env : ValueEnv) (s : AbsState) (cpu : Cpu) (mode : Mode) → mode ≡ Code → FileStands env s cpu mode
    → RegistersStand env s cpu.regs cpu.flags
code_file env s cpu _ e h = subst (FileStands env s cpu) e h

-- what an instruction at a code site sees
pub seen_of : (cfg : Description) (key : Key) (t next : ℕ) (found : Option (Insn × ℕ)) (s : AbsState) (S : State)
    → IsState s → next < 2 ^ 64 → Describes cfg key (code t) found s S
    → IsSeen cfg key S.chain (cpu_of s) s.slots S.cpu S.mem.bytes next
seen_of cfg key t next found s S is fits D =
    let file = code_file (env_of cfg S.chain) s S.cpu S.cpu.mode D.point.0 D.file in
    record {
      regs = record {
        count = is.reg_count;
        valid = is.regs;
        size = D.typed.cpu.regs.0;
        words = D.typed.cpu.regs.1;
        stand = file.each;
      };
      gs = D.spaces.gs.active;
      gs_fits = D.typed.cpu.gs;
      next_fits = fits;
      count = is.slots.1;
      slots_valid = is.slots.0;
      words = D.slots;
      bytes = D.typed.mem;
    }

-- an instruction that leaves kernel code running, with these registers, spaces and words
pub after_row : (cfg : Description) (key : Key) (at t : ℕ) (found : Option (Insn × ℕ)) (s out : AbsState) (S : State)
    (cpu : Cpu) (latch : Latch) (mem : Bytes) → Describes cfg key (code at) found s S → IsCpu cpu → AreBytes mem
    → RowStands cfg (env_of cfg S.chain) out cpu latch → out.floors ≡ s.floors
    → SlotsStand cfg key (env_of cfg S.chain) out.slots mem → AreBaseSlotsTop key out.slots → IsKernelCpu cfg cpu
    → cpu.mode ≡ Code → cpu.rip ≡ t
    → Describes cfg key (code t) found out
    (record S { cpu = cpu; latch = latch; mem = record S.mem { bytes = mem } })
after_row cfg key at t found s out S cpu latch mem D typed bytes row floors slots bare kernel mode rip = record {
  typed = record { cpu = typed; mem = bytes; chain = D.typed.chain };
  running = D.running;
  chain = D.chain;
  floors = subst (λ f. FloorsStand cfg f (newest_of S.chain).base S.chain) (sym floors) D.floors;
  file = subst (FileStands (env_of cfg S.chain) out cpu) (sym mode) row.file;
  spaces = row.spaces;
  slots = slots;
  bare = bare;
  kernel = kernel;
  point = (mode, rip);
}

-- ---- greater states

pub rows_at : {A : Type 0} (below : A → A → Bool) (xs ys : List A) (i : ℕ) (d : A) → rows_below below xs ys ≡ true
    → i < length xs → below (get_or xs i d) (get_or ys i d) ≡ true
rows_at below [] ys i d h inside = absurd (omega (arith, inside))
rows_at below (x ∷ xs) [] i d h inside = absurd cc
rows_at below (x ∷ xs) (y ∷ ys) zero d h inside = (and_parts (below x y) (rows_below below xs ys) h).0
rows_at below (x ∷ xs) (y ∷ ys) (suc i) d h inside =
    rows_at below xs ys i d (and_parts (below x y) (rows_below below xs ys) h).1 (omega (arith, inside))

-- the order of states as a fact a part
pub record IsStateBelow (s t : AbsState) : Type 0 where
  pub regs : rows_below value_below s.regs t.regs ≡ true
  pub flags : value_below s.flags t.flags ≡ true
  pub gs : gs_below s.gs t.gs ≡ true
  pub map : map_below s.map t.map ≡ true
  pub latches : latches_below s.latches t.latches ≡ true
  pub floors : floors_below s.floors t.floors ≡ true
  pub slots : rows_below value_below s.slots t.slots ≡ true

pub state_facts : (s t : AbsState) → state_below s t ≡ true → IsStateBelow s t
state_facts s t h =
    let a = and_parts (rows_below value_below s.regs t.regs) _ h in
    let b = and_parts (value_below s.flags t.flags) _ a.1 in
    let c = and_parts (gs_below s.gs t.gs) _ b.1 in
    let d = and_parts (map_below s.map t.map) _ c.1 in
    let e = and_parts (latches_below s.latches t.latches) _ d.1 in
    let f = and_parts (floors_below s.floors t.floors) (rows_below value_below s.slots t.slots) e.1 in
    record { regs = a.0; flags = b.0; gs = c.0; map = d.0; latches = e.0; floors = f.0; slots = f.1 }

gs_grows : (cfg : Description) (user_gs : ℕ) (p q : GsPair) (cpu : Cpu) → gs_below p q ≡ true
    → GsStands cfg user_gs p cpu → GsStands cfg user_gs q cpu
gs_grows cfg user_gs p q cpu h stands =
    let both = and_parts (who_below p.active q.active) (who_below p.inactive q.inactive) h in
    record {
      active = who_grows p.active q.active (gs_env cfg user_gs) cpu.gs both.0 stands.active;
      inactive = who_grows p.inactive q.inactive (gs_env cfg user_gs) cpu.kgs both.1 stands.inactive;
    }

pub latches_grow : (p q : Latches) (latch : Latch) → latches_below p q ≡ true → LatchesStand p latch
    → LatchesStand q latch
latches_grow p q latch h stands =
    let a = and_parts (tri_below p.nmi_blocked q.nmi_blocked) (tri_below p.shadow q.shadow && tri_below p.mcip q.mcip) h
    in
    let b = and_parts (tri_below p.shadow q.shadow) (tri_below p.mcip q.mcip) a.1 in
    record {
      nmi_blocked = tri_grows p.nmi_blocked q.nmi_blocked latch.nmi_blocked a.0 stands.nmi_blocked;
      shadow = tri_grows p.shadow q.shadow latch.shadow b.0 stands.shadow;
      mcip = tri_grows p.mcip q.mcip latch.mcip b.1 stands.mcip;
    }

module _ (cfg : Description) (valid : IsValid cfg) (key : Key) (s t : AbsState) (is : IsState s) (also : IsState t)
    (below : IsStateBelow s t) where
  -- the changes of a handler's call leave the greater state as it is, where they leave the lesser one
  abbrev pub IsStill : Type 0
  IsStill = (h : Handler) → called cfg key h s ≡ s → called cfg key h t ≡ t

  reg_grows : (env : ValueEnv) (i n : ℕ) → i < 16 → Represents (value_at s.regs i) env n
      → Represents (value_at t.regs i) env n
  reg_grows env i n inside stands =
      value_grows (value_at s.regs i) (value_at t.regs i) env n
      (rows_at value_below s.regs t.regs i value_top below.regs (omega (arith, inside, is.reg_count))) stands

  flags_grow : (env : ValueEnv) (n : ℕ) → Represents s.flags env n → Represents t.flags env n
  flags_grow env n stands = value_grows s.flags t.flags env n below.flags stands

  file_grows : (env : ValueEnv) (cpu : Cpu) (mode : Mode) → FileStands env s cpu mode → FileStands env t cpu mode
  file_grows env cpu User h = absurd h
  file_grows env cpu Code h = record {
    each = λ i inside. reg_grows env i _ inside (h.each i inside);
    rflags = flags_grow env cpu.flags h.rflags;
  }
  file_grows env cpu (Inside call) h = record {
    rsp = reg_grows env 4 _ (omega arith) h.rsp;
    rbx = reg_grows env 3 _ (omega arith) h.rbx;
    rbp = reg_grows env 5 _ (omega arith) h.rbp;
    r12 = reg_grows env 12 _ (omega arith) h.r12;
    r13 = reg_grows env 13 _ (omega arith) h.r13;
    r14 = reg_grows env 14 _ (omega arith) h.r14;
    r15 = reg_grows env 15 _ (omega arith) h.r15;
    flags = flags_grow env call.flags h.flags;
  }

  slot_below : (i : ℕ) → i < 296 → value_below (value_at s.slots i) (value_at t.slots i) ≡ true
  slot_below i inside = rows_at value_below s.slots t.slots i value_top below.slots (omega (arith, inside, is.slots.1))

  floor_at_grows : (base n x : ℕ) → n < 16 → FloorStands (get_or s.floors.at n floor_top) base (Some x)
      → FloorStands (get_or t.floors.at n floor_top) base (Some x)
  floor_at_grows base n x few stands =
      floor_grows (get_or s.floors.at n floor_top) (get_or t.floors.at n floor_top) base (Some x)
      (All-get_or IsFloor s.floors.at n floor_top (omega (arith, few, is.floors.count)) is.floors.each)
      (All-get_or IsFloor t.floors.at n floor_top (omega (arith, few, also.floors.count)) also.floors.each)
      (rows_at floor_below s.floors.at t.floors.at n floor_top below.floors (omega (arith, few, is.floors.count)))
      stands

  top_stays : (i : ℕ) → i < 296 → value_at s.slots i ≡ value_top → value_at t.slots i ≡ value_top
  top_stays i inside top =
      let v = value_at t.slots i in
      let ok = All-get_or IsValidValue t.slots i value_top (omega (arith, inside, also.slots.1)) also.slots.0 in
      let up = subst (λ z. value_below z v ≡ true) top (slot_below i inside) in
      value_laws.below_antisym v value_top ok top_valid (value_laws.top_above v v ok ok tt) up

  running_still : (chain : List Activation) (cpu : Cpu) (call : Call) (o : Option Handler) → IsStill
      → IsSomeAnd o (IsHandlerRunning cfg key s chain cpu call)
      → IsSomeAnd o (IsHandlerRunning cfg key t chain cpu call)
  running_still chain cpu call None still h = absurd h
  running_still chain cpu call (Some handler) still h = record {
    interrupts = h.interrupts;
    stack = h.stack;
    cr3 = h.cr3;
    changed = still handler h.changed;
  }

  inside_grows : (found : Option (Insn × ℕ)) (at : ℕ) (chain : List Activation) (cpu : Cpu) (mode : Mode) → IsStill
      → IsInsideAt cfg key at found s chain cpu mode → IsInsideAt cfg key at found t chain cpu mode
  inside_grows found at chain cpu User still h = absurd h
  inside_grows found at chain cpu Code still h = absurd h
  inside_grows found at chain cpu (Inside call) still h =
      (h.0, running_still chain cpu call (slice_get cfg.handlers call.handler) still h.1)

  point_grows : (found : Option (Insn × ℕ)) (at : ℕ) (inside : Bool) (chain : List Activation) (cpu : Cpu)
      → (inside ≡ true → IsStill) → IsAtPoint cfg key at inside found s chain cpu
      → IsAtPoint cfg key at inside found t chain cpu
  point_grows found at false chain cpu still h = h
  point_grows found at true chain cpu still h = inside_grows found at chain cpu cpu.mode (still refl) h

  -- a greater state describes too
  pub described_above : (site : Site) (found : Option (Insn × ℕ)) (S : State) → (site.inside ≡ true → IsStill)
      → Describes cfg key site found s S → Describes cfg key site found t S
  described_above site found S still D = record {
    typed = D.typed;
    running = D.running;
    chain = D.chain;
    floors = λ x n live here.
        floor_at_grows (newest_of S.chain).base n x (stack_below cfg x n valid here) (D.floors x n live here);
    file = file_grows (env_of cfg S.chain) S.cpu S.cpu.mode D.file;
    spaces = record {
      gs = gs_grows cfg _ s.gs t.gs S.cpu below.gs D.spaces.gs;
      map = map_grows s.map t.map (cr3_env cfg) S.cpu.cr3 below.map D.spaces.map;
      latches = latches_grow s.latches t.latches S.latch below.latches D.spaces.latches;
    };
    slots = λ i l inside e. value_grows (value_at s.slots i) (value_at t.slots i) (env_of cfg S.chain) _
        (slot_below i inside) (D.slots i l inside e);
    bare = λ syscall i low high. top_stays i (omega (arith, high)) (D.bare syscall i low high);
    kernel = D.kernel;
    point = point_grows found site.at site.inside S.chain S.cpu still D.point;
  }
