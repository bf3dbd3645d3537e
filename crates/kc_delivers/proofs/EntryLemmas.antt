-- The machine at the entry that a delivery leads to. Registers and flags by their symbols and bits; of the slots, the
-- words of the TSS and of the configuration lie in areas, which the frame doesn't meet, and those of the frame are what
-- was pushed. Floors, the base and the new RSP are premises, which the two kinds of frames meet each in its way.
use Rattle.std.proofs.Common.{◌≡◌, ℕ, zero, suc, ◌+◌, ◌-◌, ◌*◌, ◌^◌, ◌<◌, ◌≤◌, ◌⊎◌, ◌==◌, ◌||◌, not, nat_le, cond, if◌then◌else◌, inl, inr, Bool, true, false, List, [], ◌∷◌, ◌++◌, length, get_or, set, slice_index, Option, Some, get_or-set_same, get_or-set_other, refl, sym, ap, ◌∙◌, subst, arith}
use Rattle.std.proofs.lemmas.Bool.{cases_eq, cases_lt, le-leb, lt-leb, false≢true}
use Rattle.std.proofs.lemmas.List.{length-set, get_or_past}
use Rattle.std.proofs.lemmas.List.Elements.{All-set}
use Rattle.kc_regions.specs.Description.{Description}
use Rattle.kc_regions.specs.Region.{region_of}
use Rattle.kc_regions.specs.Valid.{IsValid}
use Rattle.kc_regions.specs.declared.entry.Gate.{Gate}
use Rattle.kc_regions.specs.declared.region.Kind.TheVariants.{Area}
use Rattle.kc_regions.specs.declared.region.Region.{Region}
use Rattle.kc_cpu.specs.declared.cpu.Cpu.{Cpu}
use Rattle.kc_cpu.specs.declared.cpu.Latch.{Latch}
use Rattle.kc_cpu.specs.declared.cpu.Mode.{Mode}
use Rattle.kc_cpu.specs.declared.cpu.Mode.TheVariants.{User, Code, Inside}
use Rattle.kc_insn.specs.declared.insn.Insn.{Insn}
use Rattle.kc_mem.specs.Memory.{Bytes, read}
use Rattle.kc_exec.specs.Operand.{plus}
use Rattle.kc_exec.specs.Register.{register, rsp}
use Rattle.kc_exec.specs.declared.state.Activation.{Activation}
use Rattle.kc_exec.specs.declared.state.State.{State}
use Rattle.kc_events.specs.Allowed.{pushes_code}
use Rattle.kc_events.specs.Attempt.{entered}
use Rattle.kc_events.specs.Delivery.{frame_words, pushed, with_pushed, ss_after, entered_cpu, entered_latch}
use Rattle.kc_events.specs.Run.{after}
use Rattle.kc_frames.specs.Slots.{redone}
use Rattle.kc_frames.specs.declared.floors.Floors.{Floors}
use Rattle.kc_space.specs.Latches.{TriStands}
use Rattle.kc_space.specs.declared.latches.Latches.{Latches}
use Rattle.kc_space.specs.declared.tri.Tri.{Tri}
use Rattle.kc_space.specs.declared.tri.Tri.TheVariants as tri
use Rattle.kc_value.specs.AbsValue.{AbsValue}
use Rattle.kc_value.specs.Made.{plain}
use Rattle.kc_value.specs.Value.{Represents, value_top}
use Rattle.kc_value.specs.declared.env.ValueEnv.{ValueEnv}
use Rattle.kc_state.specs.AbsDelivery as known
use Rattle.kc_state.specs.Places.{below_address, word_of}
use Rattle.kc_state.specs.declared.interrupted.Interrupted.{Interrupted}
use Rattle.kc_state.specs.declared.key.Key.{Key}
use Rattle.kc_state.specs.declared.location.Location.{Location}
use Rattle.kc_state.specs.declared.state.AbsState.{AbsState}
use Rattle.kc_describes.specs.Chain.{env_of}
use Rattle.kc_describes.specs.Describes.{Describes}
use Rattle.kc_describes.specs.Fits.{is_user_mode, IsKernelCpu, IsBaseOf, IsFrameBase}
use Rattle.kc_describes.specs.Places.{address_of, FloorsStand, SlotsStand, WordStands}
use Rattle.kc_describes.specs.Row.{value_at, FileStands, SpacesStand}
use Rattle.kc_describes.specs.Spaces.{LatchesStand}
use Rattle.kc_describes.specs.Widths.{IsWord, IsMachine, IsActivation}
use Rattle.kc_describes.proofs.MemoryLemmas.{read_agree}
use Rattle.kc_describes.proofs.OffsetLemmas.{rising_byte}
use Rattle.kc_describes.proofs.OperandLemmas.{word_at}
use Rattle.kc_describes.proofs.SlotLemmas.{get_or-redone, IsAreaWord, area_word, base_word_at}
use Rattle.kc_describes.proofs.ValueLemmas.{top_stands, anywhere}
use Rattle.kc_calls.specs.Laws.{code_at}
use Rattle.kc_delivers.proofs.BytesLemmas.{frame_bytes}
use Rattle.kc_delivers.proofs.ChainLemmas.{each}
use Rattle.kc_delivers.proofs.FlagLemmas.{entry_flags_model, entry_flags_fit, entry_flags_stand}
use Rattle.kc_delivers.proofs.InterruptedLemmas.{IsInterrupted, made, entry_env, five_words, IsEntryKey, fits, chain_fits, env_is, base_is}
use Rattle.kc_delivers.proofs.PushLemmas.{OfFrame, frame_elsewhere, frame_word_at}

-- ---- small parts

set_or : (old : Tri) (latch : Bool) (v n : ℕ) → TriStands old latch
    → TriStands (cond (v == n) tri.Yes old) (latch || v == n)
set_or old latch v n stands = by (v == n)
  where
    unset : (b : Bool) → b ≡ (b || false)
    unset true = refl
    unset false = refl

    set : (b : Bool) → (b || true) ≡ true
    set true = refl
    set false = refl

    by : (b : Bool) → TriStands (cond b tri.Yes old) (latch || b)
    by true = set latch
    by false = subst (TriStands old) (unset latch) stands

-- the latches after a delivery
entry_latches : (l : Latches) (latch : Latch) (v : ℕ) → LatchesStand l latch
    → LatchesStand (known.entered_latches l v) (entered_latch latch v)
entry_latches l latch v stands = record {
  nmi_blocked = set_or l.nmi_blocked latch.nmi_blocked v 2 stands.nmi_blocked;
  shadow = refl;
  mcip = set_or l.mcip latch.mcip v 18 stands.mcip;
}

ss_fits : (cpu : Cpu) (mode : Mode) → cpu.ss < 2 ^ 16 → ss_after cpu mode < 2 ^ 16
ss_fits cpu User fits = omega arith
ss_fits cpu Code fits = fits
ss_fits cpu (Inside call) fits = fits

-- the five words are the first ones of the frame
first_words : (cpu : Cpu) (v code j : ℕ) → j < 5 → get_or (frame_words cpu v code) j 0 ≡ get_or (five_words cpu) j 0
first_words cpu v code zero few = refl
first_words cpu v code (suc zero) few = refl
first_words cpu v code (suc (suc zero)) few = refl
first_words cpu v code (suc (suc (suc zero))) few = refl
first_words cpu v code (suc (suc (suc (suc zero)))) few = refl
first_words cpu v code (suc (suc (suc (suc (suc j))))) few = absurd (omega (arith, few))

-- a frame has five words, or six with an error code
pub frame_length : (cpu : Cpu) (v code : ℕ) → 8 * length (frame_words cpu v code) ≡ known.frame_size v
frame_length cpu v code = by (pushes_code v)
  where
    by : (b : Bool)
        → 8 * length (cpu.ss ∷ register cpu rsp ∷ cpu.flags ∷ cpu.cs ∷ cpu.rip ∷ (if b then code ∷ [] else []))
        ≡ cond b 48 40
    by true = refl
    by false = refl

pub size_cases : (v : ℕ) → (known.frame_size v ≡ 40) ⊎ (known.frame_size v ≡ 48)
size_cases v = by (known.pushes_code v)
  where
    size : Bool → ℕ
    size b = cond b 48 40

    by : (b : Bool) → (size b ≡ 40) ⊎ (size b ≡ 48)
    by true = inr refl
    by false = inl refl

pub pushed_length : (top : ℕ) (ws : List ℕ) → length (pushed top ws) ≡ length ws
pushed_length top [] = refl
pushed_length top (w ∷ ws) = ap suc (pushed_length (plus top (2 ^ 64 - 8)) ws)

-- a value of an area's word stands whatever the base
area_address : (cfg : Description) (b c : ℕ) (l : Location) (w : IsAreaWord cfg l) → address_of b l ≡ w.at
area_address cfg b c l w = ap (address_of b) w.is

-- ---- the base of a frame

-- the frame of n words below the base lies whole below it, and meets no area
pub record IsFrameAt (cfg : Description) (n base : ℕ) : Type 0 where
  pub fits : base < 2 ^ 64
  pub room : 8 * n ≤ base
  pub is : IsFrameBase cfg base
  pub apart : (x : ℕ) (r : Region) → OfFrame base n x → region_of cfg.regions x ≡ Some r → r.kind ≡ Area → ⊥

module _ (cfg : Description) (valid : IsValid cfg) (i : Interrupted) (slots : List AbsValue) (S : State) (user_gs : ℕ)
    (I : IsInterrupted cfg i slots S user_gs) (g : Gate) (code : ℕ) (key_base : Option ℕ) (base : ℕ)
    (F : IsFrameAt cfg (length (frame_words S.cpu g.vector code)) base)
    (based : IsBaseOf cfg key_base false i.stack base) where
  abbrev pub key : Key
  key = known.entered_key i g.vector key_base

  abbrev pub act : Activation
  act = made S.cpu false g.vector base

  abbrev pub chain : List Activation
  chain = S.chain ++ act ∷ []

  abbrev env : ValueEnv
  env = entry_env cfg S.cpu user_gs base

  abbrev words : List ℕ
  words = frame_words S.cpu g.vector code

  abbrev mem : Bytes
  mem = with_pushed S.mem.bytes (pushed base words)

  key_is : IsEntryKey cfg valid i slots S user_gs I key g.vector base
  key_is = record {
    vector = refl;
    side = refl;
    gs = refl;
    map = refl;
    stack = refl;
    syscall = λ h. absurd (false≢true h);
    based = based;
    frame = λ h. F.is;
    long = λ h. absurd (false≢true h);
  }

  -- ---- slots

  -- a word of an area isn't written
  area_stays : (l : Location) (w : IsAreaWord cfg l) → read mem w.at 8 ≡ read S.mem.bytes w.at 8
  area_stays l w =
      let whole = w.whole in
      let fits : w.at < 2 ^ 64 = omega (arith, whole) in
      read_agree mem S.mem.bytes w.at 8 fits (λ x low inside.
      let between = rising_byte x w.at 8 low fits (omega (arith, whole)) inside in
      let r = w.bytes (x - w.at) (omega (arith, between.0, between.1)) in
      let same : w.at + (x - w.at) ≡ x = omega (arith, between.0) in
      frame_elsewhere S.mem.bytes base words x F.fits F.room low
      (λ of. F.apart x r.0 of (ap (region_of cfg.regions) (sym same) ∙ r.1) r.2))

  below_slot : (j : ℕ) (l : Location) → j < 40 → word_of cfg key j ≡ Some l
      → WordStands env mem (plain (value_at slots j)) l
  below_slot j l low e =
      let w = area_word cfg key j l valid low e in
      let at = area_address cfg base base l w in
      subst (Represents (plain (value_at slots j)) env)
      (ap (λ a. read S.mem.bytes a 8) at ∙ sym (area_stays l w) ∙ ap (λ a. read mem a 8) (sym at))
      (I.fixed key j l base low e)

  word_fits : (j : ℕ) → j < 5 → get_or (five_words S.cpu) j 0 < 2 ^ 64
  word_fits zero few = let fits = I.typed.cpu.ss in omega (arith, fits)
  word_fits (suc zero) few = word_at S.cpu.regs 4 I.typed.cpu.regs.1
  word_fits (suc (suc zero)) few = I.typed.cpu.flags
  word_fits (suc (suc (suc zero))) few = let fits = I.typed.cpu.cs in omega (arith, fits)
  word_fits (suc (suc (suc (suc zero)))) few = I.typed.cpu.rip
  word_fits (suc (suc (suc (suc (suc j))))) few = absurd (omega (arith, few))

  five : 5 ≤ length words
  five = let size = frame_length S.cpu g.vector code in elim (size_cases g.vector) [
    | inl e ↦ omega (arith, size, e)
    | inr e ↦ omega (arith, size, e)
  ]

  frame_slot : (j : ℕ) (l : Location) → j < 5 → word_of cfg key (40 + j) ≡ Some l
      → WordStands env mem (value_at i.frame j) l
  frame_slot j l few e =
      let key_fits = fits cfg valid i slots S user_gs I key g.vector base key_is in
      let w = base_word_at cfg valid key user_gs act key_fits F.fits
      (40 + j) l (omega arith) (omega (arith, few)) e in
      let room = F.room in
      let count = five in
      let base_fits = F.fits in
      let at : below_address base (8 * (40 + j - 39)) ≡ base - 8 * (j + 1) =
      omega (arith, few, room, count, base_fits) in
      let held = frame_word_at S.mem.bytes base words j (get_or (five_words S.cpu) j 0) F.fits F.room
      (omega (arith, few, count)) (first_words S.cpu g.vector code j few) (word_fits j few) in
      subst (Represents (value_at i.frame j) env)
      (sym held ∙ ap (λ a. read mem a 8) (sym at) ∙ ap (λ a. read mem a 8) (sym w.address)) (I.frame base j few)

  old_slot : (j : ℕ) (v : AbsValue) → j < 40 → known.entered_slot i.frame j v ≡ plain v
  old_slot j v low =
      let e : nat_le 40 j ≡ false = lt-leb 40 j low in
      ap (λ t. cond (not t) (plain v) (get_or i.frame (j - 40) value_top)) e

  new_slot : (j : ℕ) (v : AbsValue) → 40 ≤ j → known.entered_slot i.frame j v ≡ get_or i.frame (j - 40) value_top
  new_slot j v high =
      let e : nat_le 40 j ≡ true = le-leb 40 j high in
      ap (λ t. cond (not t) (plain v) (get_or i.frame (j - 40) value_top)) e

  slot_value : (j : ℕ) → j < 296 → value_at (redone (known.entered_slot i.frame) 0 slots) j
      ≡ known.entered_slot i.frame j (value_at slots j)
  slot_value j inside =
      let same : 0 + j ≡ j = omega arith in
      get_or-redone (known.entered_slot i.frame) value_top 0 j slots (omega (arith, inside, I.slots_ok.1))
      ∙ ap (λ k. known.entered_slot i.frame k (value_at slots j)) same

  later_slot : (j : ℕ) (l : Location) → 40 ≤ j → word_of cfg key j ≡ Some l
      → WordStands env mem (get_or i.frame (j - 40) value_top) l
  later_slot j l high e = elim (cases_lt j 45) [
    | inl low ↦
        let same : 40 + (j - 40) ≡ j = omega (arith, high) in
        frame_slot (j - 40) l (omega (arith, low, high)) (ap (word_of cfg key) same ∙ e)
    | inr past ↦
        subst (λ v. WordStands env mem v l)
        (sym (get_or_past i.frame (j - 40) value_top (omega (arith, past, I.frame_count))))
        (top_stands cfg valid env refl (read mem (address_of base l) 8))
  ]

  slots_stand : SlotsStand cfg key env (redone (known.entered_slot i.frame) 0 slots) mem
  slots_stand j l inside e = elim (cases_lt j 40) [
    | inl low ↦
        subst (λ v. WordStands env mem v l) (sym (slot_value j inside ∙ old_slot j (value_at slots j) low))
        (below_slot j l low e)
    | inr high ↦
        subst (λ v. WordStands env mem v l) (sym (slot_value j inside ∙ new_slot j (value_at slots j) high))
        (later_slot j l high e)
  ]

  -- ---- the processor

  module _ (entry_fits : g.entry < 2 ^ 64) (new : AbsValue) (n : ℕ) (new_fits : n < 2 ^ 64)
      (new_stands : Represents new env n) (floors : Floors) (stand : FloorsStand cfg floors base chain) where
    abbrev pub out : AbsState
    out = known.entered i slots g new floors

    abbrev pub cpu : Cpu
    cpu = entered_cpu cfg S.cpu g n

    abbrev latch : Latch
    latch = entered_latch S.latch g.vector

    register_stands : (w : ℕ) → w < 16 → Represents (value_at out.regs w) env (slice_index cpu.regs w)
    register_stands w inside = elim (cases_eq w 4) [
      | inl e ↦
          let there : value_at (set i.regs 4 new) w ≡ new =
          ap (value_at (set i.regs 4 new)) e
          ∙ get_or-set_same i.regs 4 new value_top (omega (arith, I.count)) in
          let here : slice_index (set S.cpu.regs 4 n) w ≡ n =
          ap (slice_index (set S.cpu.regs 4 n)) e
          ∙ get_or-set_same S.cpu.regs 4 n 0 (omega (arith, I.typed.cpu.regs.0)) in
          subst (λ v. Represents v env (slice_index cpu.regs w)) (sym there)
          (subst (Represents new env) (sym here) new_stands)
      | inr other ↦
          let there : value_at (set i.regs 4 new) w ≡ value_at i.regs w =
          get_or-set_other i.regs 4 w new value_top other in
          let here : slice_index (set S.cpu.regs 4 n) w ≡ slice_index S.cpu.regs w =
          get_or-set_other S.cpu.regs 4 w n 0 other in
          subst (λ v. Represents v env (slice_index cpu.regs w)) (sym there)
          (subst (Represents (value_at i.regs w) env) (sym here) (I.regs base w inside))
    ]

    flags_stand : Represents out.flags env cpu.flags
    flags_stand = record {
      symbol = tt;
      bits =
          entry_flags_stand (value_at i.frame 2).bits S.cpu.flags g.trap I.typed.cpu.flags I.model
          (I.frame base 2 (omega arith)).bits;
      place = anywhere cfg valid env refl cpu.flags;
    }

    ss_is : (mode : Mode) → S.cpu.mode ≡ mode
        → (ss_after S.cpu mode ≡ 0) ⊎ (ss_after S.cpu mode ≡ cfg.cpu.star_kernel + 8)
    ss_is User e = inl refl
    ss_is Code e = (I.kernel (I.side ∙ ap (λ z. not (is_user_mode z)) e)).ss
    ss_is (Inside call) e = (I.kernel (I.side ∙ ap (λ z. not (is_user_mode z)) e)).ss

    kernel_cpu : IsKernelCpu cfg cpu
    kernel_cpu = record {
      cs = refl;
      ss = ss_is S.cpu.mode refl;
      flags = entry_flags_model S.cpu.flags g.trap I.model;
    }

    typed : IsMachine (after S (entered S g.vector (record {
      cpu = cpu;
      latch = latch;
      mem = mem;
      base = base;
      accesses = [];
    })))
    typed = record {
      cpu = record {
        regs = (
          length-set S.cpu.regs 4 n ∙ I.typed.cpu.regs.0,
          All-set IsWord S.cpu.regs 4 n new_fits I.typed.cpu.regs.1,
        );
        rip = entry_fits;
        flags = entry_flags_fit S.cpu.flags g.trap;
        cs = let range = valid.ranges.cpu.star_kernel.1 in omega (arith, range);
        ss = ss_fits S.cpu S.cpu.mode I.typed.cpu.ss;
        gs = I.typed.cpu.gs;
        kgs = I.typed.cpu.kgs;
        cr3 = I.typed.cpu.cr3;
        mode = tt;
      };
      mem = frame_bytes S.mem.bytes base words I.typed.mem;
      chain =
          each IsActivation S.chain act I.typed.chain
          (record { saved = I.typed.cpu; base = F.fits; due = I.typed.cpu });
    }

    env_same : env_of cfg chain ≡ env
    env_same = env_is cfg valid i slots S user_gs I key g.vector base

    -- the entry state describes the machine after the delivery
    pub described : (found : Option (Insn × ℕ)) (T : State)
        → T ≡ record S { cpu = cpu; latch = latch; mem = record S.mem { bytes = mem }; chain = chain }
        → Describes cfg key (code_at g.entry) found out T
    described found T is = subst (Describes cfg key (code_at g.entry) found out) (sym is) (record {
      typed = typed;
      running = I.running;
      chain = chain_fits cfg valid i slots S user_gs I key g.vector base key_is;
      floors =
          subst (λ b. FloorsStand cfg floors b chain)
          (sym (base_is cfg valid i slots S user_gs I key g.vector base)) stand;
      file =
          subst (λ e. FileStands e out cpu Code) (sym env_same)
          (record { each = register_stands; rflags = flags_stand });
      spaces =
          subst (λ e. SpacesStand cfg e out cpu latch) (sym env_same)
          (record {
            gs = record { active = I.gs.active; inactive = I.gs.inactive };
            map = I.map;
            latches = entry_latches i.latches S.latch g.vector I.latches;
          });
      slots = subst (λ e. SlotsStand cfg key e out.slots mem) (sym env_same) slots_stand;
      bare = λ h. absurd (false≢true h);
      kernel = kernel_cpu;
      point = (refl, refl);
    })
