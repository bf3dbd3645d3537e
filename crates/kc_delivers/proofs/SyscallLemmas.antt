-- SYSCALL: it makes no access, so it breaks nothing and never stops; the state at the configured address describes the
-- machine after it. RCX and R11 hold RIP and RFLAGS of the user, the flags are masked, no word of memory changes.
use Rattle.std.proofs.Common.{◌≡◌, ℕ, ◌+◌, ◌-◌, ◌^◌, ◌<◌, ◌≤◌, not, nat_le, cond, inl, inr, true, false, List, [], ◌∷◌, ◌++◌, length, get_or, set, slice_index, All, Option, get_or-set_same, get_or-set_other, refl, sym, ap, ◌∙◌, subst, arith}
use Rattle.std.specs.Int.{w64, bit_not}
use Rattle.std.proofs.lemmas.Bool.{cases_eq, cases_lt, le-leb, lt-leb, false≢true}
use Rattle.std.proofs.lemmas.List.{length-set}
use Rattle.std.proofs.lemmas.List.Elements.{All-set, All-nil}
use Rattle.kc_insn.specs.declared.insn.Insn.{Insn}
use Rattle.kc_image.specs.Image.{Contents}
use Rattle.kc_bits.specs.Bits.{flipped}
use Rattle.kc_regions.specs.Description.{Description}
use Rattle.kc_regions.specs.Permission.{user_cs64}
use Rattle.kc_regions.specs.Valid.{IsValid}
use Rattle.kc_cpu.specs.declared.cpu.Cpu.{Cpu}
use Rattle.kc_cpu.specs.declared.cpu.Mode.TheVariants.{Code}
use Rattle.kc_mem.specs.Memory.{read}
use Rattle.kc_exec.specs.Live.{IsLive}
use Rattle.kc_exec.specs.declared.state.Activation.{Activation}
use Rattle.kc_exec.specs.declared.state.State.{State}
use Rattle.kc_events.specs.Attempt.{syscall}
use Rattle.kc_events.specs.Run.{after, Steps}
use Rattle.kc_events.specs.Turns.{after_syscall}
use Rattle.kc_events.specs.declared.turn.Turn.TheVariants.{Syscall}
use Rattle.kc_frames.specs.declared.floors.Floors.{Floors}
use Rattle.kc_value.specs.AbsValue.{AbsValue}
use Rattle.kc_value.specs.Made.{plain}
use Rattle.kc_value.specs.Value.{Represents, value_top}
use Rattle.kc_value.specs.declared.env.ValueEnv.{ValueEnv}
use Rattle.kc_state.specs.AbsDelivery.{entered_slot, user_registers, interrupted_user, syscall_key, syscall_state}
use Rattle.kc_state.specs.Calls.{edited_rip, edited_flags}
use Rattle.kc_state.specs.User.{IsUserState}
use Rattle.kc_state.specs.declared.key.Key.{Key}
use Rattle.kc_state.specs.declared.state.AbsState.{AbsState}
use Rattle.kc_state.specs.declared.user.UserState.{UserState}
use Rattle.kc_describes.specs.Chain.{newest_of, env_of}
use Rattle.kc_describes.specs.Describes.{Describes, AreBaseSlotsTop}
use Rattle.kc_describes.specs.Fits.{IsKernelCpu}
use Rattle.kc_describes.specs.Places.{address_of, FloorsStand, SlotsStand, WordStands}
use Rattle.kc_describes.specs.Row.{value_at, FileStands, SpacesStand}
use Rattle.kc_describes.specs.User.{UserDescribes}
use Rattle.kc_describes.specs.Widths.{IsWord, IsMachine, IsActivation}
use Rattle.kc_describes.proofs.QuietLemmas.{IsQuiet}
use Rattle.kc_describes.proofs.SlotLemmas.{get_or-redone}
use Rattle.kc_describes.proofs.ValueLemmas.{top_stands, anywhere}
use Rattle.kc_calls.proofs.InsideLemmas.{like_described}
use Rattle.kc_rules.proofs.AnswerLemmas.{some_is}
use Rattle.kc_calls.specs.Laws.{code_at}
use Rattle.kc_delivers.specs.Delivered.{Enters, MayComeIn, SyscallIsCovered}
use Rattle.kc_delivers.proofs.AdmittedLemmas.{interrupted, own_rip, own_flags}
use Rattle.kc_delivers.proofs.ChainLemmas.{each, live_cases}
use Rattle.kc_delivers.proofs.FlagLemmas.{masked_flags, masked_fits, masked_stands, fmask_fixed}
use Rattle.kc_delivers.proofs.InterruptedLemmas.{IsInterrupted, made, entry_env, IsEntryKey, chain_fits, env_is}
use Rattle.kc_delivers.proofs.TurnLemmas.{quiet, runs_on, syscall_is_no_go}

-- ---- small parts

-- a register that takes a value and its number
set_stands : (env : ValueEnv) (values : List AbsValue) (regs : List ℕ) (r n : ℕ) (v : AbsValue)
    → length values ≡ 16 → length regs ≡ 16
    → ((w : ℕ) → w < 16 → Represents (value_at values w) env (slice_index regs w)) → Represents v env n
    → (w : ℕ) → w < 16 → Represents (value_at (set values r v) w) env (slice_index (set regs r n) w)
set_stands env values regs r n v count size each new w inside = elim (cases_eq w r) [
  | inl e ↦
      let there : value_at (set values r v) w ≡ v =
      ap (value_at (set values r v)) e ∙ get_or-set_same values r v value_top (omega (arith, e, inside, count)) in
      let here : slice_index (set regs r n) w ≡ n =
      ap (slice_index (set regs r n)) e ∙ get_or-set_same regs r n 0 (omega (arith, e, inside, size)) in
      subst (λ z. Represents z env (slice_index (set regs r n) w)) (sym there)
      (subst (Represents v env) (sym here) new)
  | inr other ↦
      let there : value_at (set values r v) w ≡ value_at values w = get_or-set_other values r w v value_top other in
      let here : slice_index (set regs r n) w ≡ slice_index regs w = get_or-set_other regs r w n 0 other in
      subst (λ z. Represents z env (slice_index (set regs r n) w)) (sym there)
      (subst (Represents (value_at values w) env) (sym here) (each w inside))
]

old_slot : (j : ℕ) (v : AbsValue) → j < 40 → entered_slot [] j v ≡ plain v
old_slot j v low =
    let e : nat_le 40 j ≡ false = lt-leb 40 j low in
    ap (λ t. cond (not t) (plain v) (get_or [] (j - 40) value_top)) e

new_slot : (j : ℕ) (v : AbsValue) → 40 ≤ j → entered_slot [] j v ≡ value_top
new_slot j v high =
    let e : nat_le 40 j ≡ true = le-leb 40 j high in
    ap (λ t. cond (not t) (plain v) value_top) e

module _ (cfg : Description) (valid : IsValid cfg) (u : UserState) (ok : IsUserState u) (S : State)
    (U : UserDescribes cfg u S) where
  abbrev own : IsInterrupted cfg (interrupted_user cfg u) u.slots S S.cpu.gs
  own = interrupted cfg valid u ok S U

  -- ---- live bytes

  -- of a chain that an entry from the user begins no byte is live
  pub none_live : (a : Activation) (x : ℕ) → a.saved ≡ S.cpu → IsLive cfg (S.chain ++ a ∷ []) x → ⊥
  none_live a x is live = elim (live_cases cfg S.chain a x live) [
    | inl old ↦
        let none = subst (λ (c : List Activation). IsLive cfg c x) U.chain old in absurd (omega (arith, none.2))
    | inr new ↦
        let there = new.suspended in
        let outside = U.processor.stack in
        absurd cc
  ]

  pub none_live_floors : (floors : Floors) (base : ℕ) (a : Activation) → a.saved ≡ S.cpu
      → FloorsStand cfg floors base (S.chain ++ a ∷ [])
  none_live_floors floors base a is x s live in_stack = absurd (none_live a x is live)

  -- ---- the state that is entered

  abbrev key : Key
  key = syscall_key cfg u

  abbrev out : AbsState
  out = syscall_state cfg u

  abbrev chain : List Activation
  chain = S.chain ++ made S.cpu true 0 0 ∷ []

  abbrev cpu : Cpu
  cpu = after_syscall cfg S.cpu

  abbrev env : ValueEnv
  env = entry_env cfg S.cpu S.cpu.gs 0

  env_same : env_of cfg chain ≡ env
  env_same = env_is cfg valid (interrupted_user cfg u) u.slots S S.cpu.gs own key 0 0

  register_stands : (w : ℕ) → w < 16 → Represents (value_at out.regs w) env (slice_index cpu.regs w)
  register_stands =
      let count = U.typed.cpu.regs.0 in
      set_stands env (set user_registers 11 edited_flags) (set S.cpu.regs 11 S.cpu.flags) 1 S.cpu.rip edited_rip refl
      (length-set S.cpu.regs 11 S.cpu.flags ∙ count)
      (set_stands env user_registers S.cpu.regs 11 S.cpu.flags edited_flags refl count (own.regs 0)
      (own_flags cfg valid u ok S U 0))
      (own_rip cfg valid u ok S U 0)

  mask_fits : flipped cfg.cpu.fmask < 2 ^ 64
  mask_fits = omega arith

  flags_stand : Represents out.flags env cpu.flags
  flags_stand = record {
    symbol = tt;
    bits =
        masked_stands edited_flags.bits S.cpu.flags (flipped cfg.cpu.fmask) U.typed.cpu.flags mask_fits
        (own_flags cfg valid u ok S U 0).bits;
    place = anywhere cfg valid env refl cpu.flags;
  }

  slot_value : (j : ℕ) → j < 296 → value_at out.slots j ≡ entered_slot [] j (value_at u.slots j)
  slot_value j inside =
      let same : 0 + j ≡ j = omega arith in
      get_or-redone (entered_slot []) value_top 0 j u.slots (omega (arith, inside, ok.1))
      ∙ ap (λ k. entered_slot [] k (value_at u.slots j)) same

  slots_stand : SlotsStand cfg key env out.slots S.mem.bytes
  slots_stand j l inside e = elim (cases_lt j 40) [
    | inl low ↦
        subst (λ v. WordStands env S.mem.bytes v l)
        (sym (slot_value j inside ∙ old_slot j (value_at u.slots j) low)) (own.fixed key j l 0 low e)
    | inr high ↦
        subst (λ v. WordStands env S.mem.bytes v l)
        (sym (slot_value j inside ∙ new_slot j (value_at u.slots j) high))
        (top_stands cfg valid env refl (read S.mem.bytes (address_of 0 l) 8))
  ]

  bare : AreBaseSlotsTop key out.slots
  bare is j high low = slot_value j (omega (arith, low)) ∙ new_slot j (value_at u.slots j) high

  kernel_cpu : IsKernelCpu cfg cpu
  kernel_cpu =
      let fmask = valid.ranges.cpu.fmask in
      record {
        cs = refl;
        ss = inr refl;
        flags =
            masked_flags S.cpu.flags (bit_not w64 cfg.cpu.fmask) own.model
            (fmask_fixed cfg.cpu.fmask fmask.0 fmask.1);
      }

  typed : IsMachine (after S (syscall cfg S))
  typed =
      let range = valid.ranges.cpu.star_kernel.1 in
      let inside = U.typed.cpu in
      record {
        cpu = record {
          regs = (
            length-set (set S.cpu.regs 11 S.cpu.flags) 1 S.cpu.rip
                ∙ length-set S.cpu.regs 11 S.cpu.flags ∙ inside.regs.0,
            All-set IsWord (set S.cpu.regs 11 S.cpu.flags) 1 S.cpu.rip inside.rip
                (All-set IsWord S.cpu.regs 11 S.cpu.flags inside.flags inside.regs.1),
          );
          rip = valid.ranges.cpu.syscall.1;
          flags = masked_fits S.cpu.flags (bit_not w64 cfg.cpu.fmask) mask_fits;
          cs = omega (arith, range);
          ss = omega (arith, range);
          gs = inside.gs;
          kgs = inside.kgs;
          cr3 = inside.cr3;
          mode = tt;
        };
        mem = U.typed.mem;
        chain =
            each IsActivation S.chain (made S.cpu true 0 0) U.typed.chain
            (record { saved = inside; base = omega arith; due = inside });
      }

  key_is : (long : S.cpu.cs ≡ user_cs64 cfg.cpu)
      → IsEntryKey cfg valid (interrupted_user cfg u) u.slots S S.cpu.gs own key 0 0
  key_is long = record {
    vector = refl;
    side = refl;
    gs = refl;
    map = refl;
    stack = refl;
    syscall = λ h. (refl, refl, refl);
    based = tt;
    frame = λ h. absurd (false≢true (sym h));
    long = λ h. long;
  }

  described : (found : Option (Insn × ℕ)) → S.cpu.cs ≡ user_cs64 cfg.cpu
      → Describes cfg key (code_at cfg.cpu.syscall) found out (after S (syscall cfg S))
  described found long = record {
    typed = typed;
    running = U.running;
    chain = chain_fits cfg valid (interrupted_user cfg u) u.slots S S.cpu.gs own key 0 0 (key_is long);
    floors = none_live_floors out.floors (newest_of chain).base (made S.cpu true 0 0) refl;
    file =
        subst (λ e. FileStands e out cpu Code) (sym env_same)
        (record { each = register_stands; rflags = flags_stand });
    spaces =
        subst (λ e. SpacesStand cfg e out cpu S.latch) (sym env_same)
        (record {
          gs = record { active = own.gs.active; inactive = own.gs.inactive };
          map = own.map;
          latches = own.latches;
        });
    slots = subst (λ e. SlotsStand cfg key e out.slots S.mem.bytes) (sym env_same) slots_stand;
    bare = bare;
    kernel = kernel_cpu;
    point = (refl, refl);
  }

  -- ---- the turn

  module _ (image : Contents) (comes : MayComeIn cfg image S Syscall) where
    no_access : All (IsQuiet cfg S.cpu.cr3 S.cpu.gs S.chain) []
    no_access = All-nil (IsQuiet cfg S.cpu.cr3 S.cpu.gs S.chain)

    goes : (found : Option (Insn × ℕ)) (T : State) → Steps cfg image S Syscall T
        → Describes cfg key (code_at cfg.cpu.syscall) found out T
    goes found T step =
        like_described cfg key (code_at cfg.cpu.syscall) found out T (after S (syscall cfg S))
        (runs_on cfg image S Syscall (syscall cfg S) (λ here. refl) syscall_is_no_go refl no_access refl comes T step)
        (described found comes.2.1.long)

    pub enters : Enters cfg image key cfg.cpu.syscall out S Syscall
    enters = record {
      quiet = quiet cfg image S Syscall (syscall cfg S) (λ here. refl) syscall_is_no_go refl no_access;
      goes = goes;
    }

pub syscall_is_covered : SyscallIsCovered
syscall_is_covered cfg image u S key s valid ok U comes e =
    let same = some_is (syscall_key cfg u, syscall_state cfg u) (key, s) e in
    subst (λ (p : Key × AbsState). Enters cfg image p.0 cfg.cpu.syscall p.1 S Syscall) same
    (enters cfg valid u ok S U image comes)
