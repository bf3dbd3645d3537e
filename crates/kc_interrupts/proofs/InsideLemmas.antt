-- What is known of kernel code that is interrupted while a handler runs is true of the machine that the state
-- describes. Nothing is known of registers; the saved RSP lies in the stack that the state names; IF is set only where
-- the handler lets it be or it was set at the call.
use Rattle.std.proofs.Common.{◌≡◌, ◌≢◌, ℕ, zero, suc, ◌+◌, ◌^◌, ◌<◌, ◌==◌, ◌&&◌, not, nat_lt, cond, inl, inr, Bool, true, false, List, [], ◌∷◌, ◌++◌, length, get_or, slice_index, Option, Some, None, refl, sym, ap, ◌∙◌, subst, arith}
use Rattle.std.specs.Int.{bit_at}
use Rattle.std.proofs.lemmas.Bool.{and_parts, cases_lt, cases_eq, eqb-true, not-true, true≢false, lt-ltb}
use Rattle.std.proofs.lemmas.Nat.Bits.{bit_at_and, bit_at_or, bit_at-zero, bit_at_above, bit_at-pow_same, bit_at-pow_other, bit_at-lt}
use Rattle.kc_insn.specs.declared.insn.Insn.{Insn}
use Rattle.kc_bits.specs.KnownBits.{KnownBits}
use Rattle.kc_bits.specs.Bits.{StandsFor, all_of, flipped, nothing_known}
use Rattle.kc_bits.proofs.Masks.{bit_at-flipped}
use Rattle.kc_bits.proofs.Prefix.{prefix_sound}
use Rattle.kc_bits.proofs.Whole.{all_stands}
use Rattle.kc_regions.specs.Description.{Description}
use Rattle.kc_regions.specs.Region.{stack_of}
use Rattle.kc_regions.specs.Valid.{IsValid}
use Rattle.kc_cpu.specs.declared.cpu.Mode.TheVariants.{User}
use Rattle.kc_mem.specs.Memory.{read}
use Rattle.kc_exec.specs.Admitted.{IsAdmitted, model_flags}
use Rattle.kc_exec.specs.Register.{register, rsp}
use Rattle.kc_exec.specs.declared.state.Activation.{Activation}
use Rattle.kc_exec.specs.declared.state.State.{State}
use Rattle.kc_events.specs.Allowed.{AreModelFlags, MaySetIf}
use Rattle.kc_frames.specs.Slots.{redone}
use Rattle.kc_space.specs.Spaces.{is_same_who, is_same_map}
use Rattle.kc_space.specs.declared.map.MapState.TheVariants as map
use Rattle.kc_space.specs.declared.who.Who.TheVariants as who
use Rattle.kc_value.specs.AbsValue.{AbsValue}
use Rattle.kc_value.specs.Made.{plain}
use Rattle.kc_value.specs.Place.{place_bit, LiesIn}
use Rattle.kc_value.specs.Value.{Represents, value_top}
use Rattle.kc_value.specs.declared.env.ValueEnv.{ValueEnv}
use Rattle.kc_state.specs.AbsDelivery.{entry_of, own_register, in_region, handler_flags, interrupted_at}
use Rattle.kc_state.specs.AbsEffect.{moment_of}
use Rattle.kc_state.specs.AbsEvents.{lists, handler_called_by}
use Rattle.kc_state.specs.Calls.{called_handler}
use Rattle.kc_state.specs.Conditions.{is_exact_at, is_exact, stack_region}
use Rattle.kc_state.specs.Location.{location_of}
use Rattle.kc_state.specs.Places.{value_stack, word_of}
use Rattle.kc_state.specs.State.{IsState}
use Rattle.kc_state.specs.declared.interrupted.Interrupted.{Interrupted}
use Rattle.kc_state.specs.declared.key.Key.{Key}
use Rattle.kc_state.specs.declared.location.Location.{Location}
use Rattle.kc_state.specs.declared.state.AbsState.{AbsState}
use Rattle.kc_describes.specs.Chain.{newest_of, oldest_of, user_gs_of, env_of}
use Rattle.kc_describes.specs.Describes.{Describes}
use Rattle.kc_describes.specs.Fits.{is_user_mode}
use Rattle.kc_describes.specs.Places.{address_of, WordStands}
use Rattle.kc_describes.specs.Row.{value_at, CallStands, FileStands}
use Rattle.kc_describes.proofs.LocationLemmas.{in_stack}
use Rattle.kc_describes.proofs.PermissionLemmas.{IsKnownCr3, known_cr3}
use Rattle.kc_describes.proofs.SlotLemmas.{get_or-redone, area_word}
use Rattle.kc_describes.proofs.ValueLemmas.{lies_at, nothing_stands}
use Rattle.kc_calls.specs.Laws.{body_of}
use Rattle.kc_calls.proofs.InsideLemmas.{IsRunning, running_of}
use Rattle.kc_returns.proofs.WordLemmas.{register_word, later_word}
use Rattle.kc_delivers.proofs.ChainLemmas.{oldest_is, one_user}
use Rattle.kc_delivers.proofs.InterruptedLemmas.{entry_env, five_words, IsInterrupted}
use Rattle.kc_interrupts.proofs.PlaceLemmas.{place_is_stack}
use Rattle.kc_delivers.proofs.UserLemmas.{entry_stands}

redone_count : {V : Type 0} (f : ℕ → V → V) (k : ℕ) (vs : List V) → length (redone f k vs) ≡ length vs
redone_count f k [] = refl
redone_count f k (v ∷ vs) = ap suc (redone_count f (suc k) vs)

-- words of areas are the same for each key
second : {A : Type 0} (b c : Bool) (x y z w : A) → c ≡ true → cond b x (cond c y z) ≡ cond b x (cond c y w)
second b c x y z w e = ap (λ t. cond b x (cond t y z)) e ∙ sym (ap (λ t. cond b x (cond t y w)) e)

same_word : (cfg : Description) (key other : Key) (j : ℕ) → j < 40 → word_of cfg key j ≡ word_of cfg other j
same_word cfg key other j low = second (nat_lt j 8) (nat_lt j 40) _ _ _ _ (lt-ltb j 40 low)

-- ---- a handler's flags

-- IF was clear, and the handler keeps it so
if_zero : (b : KnownBits) (before after i : ℕ) (irq : Bool) → StandsFor b before → MaySetIf before irq after
    → after < 2 ^ 64 → (t : Bool) → t ≡ (not irq && bit_at b.zeros 9 == 1) → bit_at (cond t 0x200 0) i ≡ 1
    → bit_at after i ≡ 0
if_zero b before after i irq stands may fits false is h = absurd (omega (arith, h, bit_at-zero i))
if_zero b before after i irq stands may fits true is h = elim (cases_eq i 9) [
  | inl e ↦
      let p = and_parts (not irq) (bit_at b.zeros 9 == 1) (sym is) in
      let zero : bit_at before 9 ≡ 0 = (stands 9).0 (eqb-true (bit_at b.zeros 9) 1 p.1) in
      let off : irq ≡ false = not-true irq p.0 in
      let none : (bit_at after 9 ≡ 1 → ⊥) =
      λ set. elim (may set) [
        | inl on ↦ absurd (true≢false (sym on ∙ off))
        | inr was ↦ absurd (omega (arith, was, zero))
      ] in
      subst (λ j. bit_at after j ≡ 0) (sym e) (elim (cases_eq (bit_at after 9) 1) [
        | inl set ↦ absurd (none set)
        | inr other ↦ omega (arith, other, bit_at-lt after 9)
      ])
  | inr other ↦ absurd (omega (arith, h, bit_at-pow_other 9 i other))
]

modelled_bit : (n i : ℕ) → n < 2 ^ 64 → AreModelFlags n → bit_at (flipped model_flags) i ≡ 1 → bit_at n i ≡ 0
modelled_bit n i fits model h = elim (cases_lt i 64) [
  | inl k ↦
      let both = bit_at_and n model_flags i in
      let e : bit_at _ i ≡ bit_at n i = ap (λ (v : ℕ). bit_at v i) model.modelled in
      omega (arith, h, bit_at-flipped model_flags i (omega arith) k, both, e)
  | inr k ↦ bit_at_above n 64 i fits k
]

pub handler_flags_stand : (b : KnownBits) (before after : ℕ) (irq : Bool) → StandsFor b before
    → MaySetIf before irq after → after < 2 ^ 64 → AreModelFlags after → StandsFor (handler_flags b irq) after
handler_flags_stand b before after irq stands may fits model = λ i. (
  λ zero.
      let t = not irq && bit_at b.zeros 9 == 1 in
      let parts = bit_at_or (flipped 0x240FD7) (cond t 0x200 0) i in
      elim (cases_eq (bit_at (flipped 0x240FD7) i) 1) [
        | inl out ↦ modelled_bit after i fits model out
        | inr other ↦
            if_zero b before after i irq stands may fits t refl
            (omega (arith, zero, parts, other, bit_at-lt (flipped 0x240FD7) i))
      ],
  λ one. elim (cases_eq i 1) [
    | inl e ↦ subst (λ j. bit_at after j ≡ 1) (sym e) model.fixed
    | inr other ↦ absurd (omega (arith, one, bit_at-pow_other 1 i other))
  ],
)

module _ (cfg : Description) (valid : IsValid cfg) (key : Key) (at : ℕ) (insn : Insn) (len : ℕ) (s : AbsState)
    (S : State) (ok : IsState s) (D : Describes cfg key (body_of at) (Some (insn, len)) s S)
    (exact : is_exact (moment_of cfg key s 0) true ≡ true) where
  R : IsRunning cfg key at insn len s S
  R = running_of cfg key at insn len s S D

  called_is : handler_called_by cfg insn ≡ Some R.handler
  called_is = ap (handler_called_by cfg) R.calls ∙ ap (called_handler cfg) R.number ∙ R.contract

  abbrev pub i : Interrupted
  i = interrupted_at cfg key (body_of at) s (handler_called_by cfg insn)

  abbrev user_gs : ℕ
  user_gs = user_gs_of S.chain

  abbrev v : AbsValue
  v = get_or s.regs 4 value_top

  abbrev n : ℕ
  n = register S.cpu rsp

  regs_count : length S.cpu.regs ≡ 16
  regs_count = D.typed.cpu.regs.0

  file : CallStands (env_of cfg S.chain) s R.call
  file = subst (FileStands (env_of cfg S.chain) s S.cpu) R.mode D.file

  rsp_stack : stack_of cfg.regions n ≡ value_stack cfg key v
  rsp_stack = place_is_stack cfg valid key (body_of at) insn len s ok S D exact

  -- ---- words

  module _ (base : ℕ) where
    abbrev env : ValueEnv
    env = entry_env cfg S.cpu user_gs base

    unknown : (w m : ℕ) → get_or env.words w 0 ≡ m → Represents (entry_of w nothing_known) env m
    unknown w m is = entry_stands cfg valid S.cpu user_gs base w m nothing_known is (nothing_stands m)

    registers : (w : ℕ) → w < 16 → Represents (value_at i.regs w) env (slice_index S.cpu.regs w)
    registers w few =
        let value : value_at i.regs w ≡ own_register true (0 + w) (value_at s.regs w) =
        get_or-redone (own_register true) value_top 0 w s.regs (omega (arith, few, ok.reg_count)) in
        let number : 0 + w ≡ w = omega arith in
        subst (λ u. Represents u env (slice_index S.cpu.regs w))
        (sym (value ∙ ap (λ k. own_register true k (value_at s.regs w)) number))
        (unknown w (slice_index S.cpu.regs w) (register_word S.cpu regs_count w few))

    word_is : n ≡ get_or env.words 4 0
    word_is = sym (register_word S.cpu regs_count 4 (omega arith))

    in_place : (o : Option ℕ) → stack_of cfg.regions n ≡ o → LiesIn (2 ^ place_bit o) env.stacks n
    in_place o e =
        lies_at cfg valid (2 ^ place_bit o) n
        (subst (λ z. bit_at (2 ^ place_bit o) (place_bit z) ≡ 1) (sym e) (bit_at-pow_same (place_bit o)))

    saved : (o : Option ℕ) → stack_of cfg.regions n ≡ o → Represents (in_region o (stack_region cfg o)) env n
    saved (Some t) e =
        let there = in_stack cfg t n valid e in
        let r = there.region in
        let ends = there.is.ends in
        let made : Represents (in_region (Some t) (Some r)) env n = record {
          symbol = word_is;
          bits = prefix_sound r.span there.is.filled (omega (arith, ends)) n there.held;
          place = in_place (Some t) e;
        } in
        subst (λ z. Represents (in_region (Some t) z) env n) (sym there.numbered) made
    saved None e = record { symbol = word_is; bits = nothing_stands n; place = in_place None e }

    own_flags : Represents (entry_of 17 (handler_flags s.flags.bits (lists (λ r. r.irq) (handler_called_by cfg insn))))
        env S.cpu.flags
    own_flags =
        let may : MaySetIf R.call.flags (lists (λ r. r.irq) (handler_called_by cfg insn)) S.cpu.flags =
        subst (λ o. MaySetIf R.call.flags (lists (λ r. r.irq) o) S.cpu.flags) (sym called_is) R.running.interrupts in
        entry_stands cfg valid S.cpu user_gs base 17 S.cpu.flags
        (handler_flags s.flags.bits (lists (λ r. r.irq) (handler_called_by cfg insn)))
        (later_word S.cpu regs_count 1)
        (handler_flags_stand s.flags.bits R.call.flags S.cpu.flags
        (lists (λ r. r.irq) (handler_called_by cfg insn)) file.flags.bits may D.typed.cpu.flags D.kernel.flags)

    own_cs : Represents (entry_of 18 (all_of cfg.cpu.star_kernel)) env S.cpu.cs
    own_cs =
        let fits = D.typed.cpu.cs in
        subst (λ m. Represents (entry_of 18 (all_of m)) env S.cpu.cs) D.kernel.cs
        (entry_stands cfg valid S.cpu user_gs base 18 S.cpu.cs (all_of S.cpu.cs) (later_word S.cpu regs_count 2)
        (all_stands S.cpu.cs (omega (arith, fits))))

    frame : (j : ℕ) → j < 5 → Represents (value_at i.frame j) env (get_or (five_words S.cpu) j 0)
    frame zero few = unknown 19 S.cpu.ss (later_word S.cpu regs_count 3)
    frame (suc zero) few = saved (value_stack cfg key v) rsp_stack
    frame (suc (suc zero)) few = own_flags
    frame (suc (suc (suc zero))) few = own_cs
    frame (suc (suc (suc (suc zero)))) few = unknown 16 S.cpu.rip (later_word S.cpu regs_count 0)
    frame (suc (suc (suc (suc (suc j))))) few = absurd (omega (arith, few))

    -- a word of an area lies at the same address whatever the base and the key
    fixed : (other : Key) (j : ℕ) (l : Location) → j < 40 → word_of cfg other j ≡ Some l
        → WordStands env S.mem.bytes (plain (value_at s.slots j)) l
    fixed other j l low e =
        let own_word = same_word cfg key other j low ∙ e in
        let w = area_word cfg key j l valid low own_word in
        let old = (newest_of S.chain).base in
        let same : address_of old l ≡ address_of base l =
        ap (address_of old) w.is ∙ sym (ap (address_of base) w.is) in
        let r = D.slots j l (omega (arith, low)) own_word in
        subst (λ a. Represents (plain (value_at s.slots j)) env (read S.mem.bytes a 8)) same
        (record { symbol = tt; bits = r.bits; place = r.place })

  -- ---- the chain

  no_user : is_user_mode S.cpu.mode ≡ false
  no_user = ap is_user_mode R.mode

  kernel_side : (a : Activation) → a.saved ≡ S.cpu → a.saved.mode ≢ User
  kernel_side a is user =
      let mode : S.cpu.mode ≡ User = sym (ap (λ c. c.mode) is) ∙ user in
      true≢false (sym (ap is_user_mode mode) ∙ no_user)

  same_admitted : (a : Activation) → IsAdmitted cfg (oldest_of (S.chain ++ a ∷ [])).saved
  same_admitted a =
      subst (λ b. IsAdmitted cfg b.saved) (sym (oldest_is S.chain a D.chain.one_user)) D.chain.admitted

  known : IsKnownCr3 cfg S.cpu.cr3
  known =
      let p = and_parts
      (not (is_same_who s.gs.active who.Any) && (not (is_same_who s.gs.inactive who.Any)
      && not (is_same_map s.map map.Any)))
      (is_exact_at (moment_of cfg key s 0) true v (location_of key v)) exact in
      let q = and_parts (not (is_same_who s.gs.active who.Any))
      (not (is_same_who s.gs.inactive who.Any) && not (is_same_map s.map map.Any)) p.0 in
      let r = and_parts (not (is_same_who s.gs.inactive who.Any)) (not (is_same_map s.map map.Any)) q.1 in
      known_cr3 cfg s.map S.cpu.cr3 (not-true (is_same_map s.map map.Any) r.1) D.spaces.map

  -- what is known of it is true of the machine, by C4
  pub body_interrupted : IsInterrupted cfg i s.slots S user_gs
  body_interrupted = record {
    typed = D.typed;
    running = D.running;
    side = sym (ap not no_user);
    gs = record { active = D.spaces.gs.active; inactive = D.spaces.gs.inactive };
    map = D.spaces.map;
    known = known;
    latches = D.spaces.latches;
    stack = rsp_stack;
    count = redone_count (own_register true) 0 s.regs ∙ ok.reg_count;
    regs = registers;
    frame_count = refl;
    frame = frame;
    slots_ok = ok.slots;
    fixed = λ other j l base low e. fixed base other j l low e;
    model = D.kernel.flags;
    alone = λ e. absurd (true≢false e);
    user = λ e. absurd (true≢false e);
    kernel = λ e. D.kernel;
    user_gs_is = λ a is. ap (λ b. b.saved.gs) (oldest_is S.chain a D.chain.one_user);
    one_user = λ a is. one_user S.chain a D.chain.one_user (kernel_side a is);
    admitted = λ a is. same_admitted a;
    due = D.chain.due;
  }
