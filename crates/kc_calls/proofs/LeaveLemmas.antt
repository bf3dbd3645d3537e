-- A handler's end. It touches no memory, so it breaks nothing; RBX, RBP and R12 to R15 are as at the call, RSP lies
-- above the return address, and of the other registers nothing is known. RFLAGS are what the contract says, place by
-- place.
use Rattle.std.proofs.Common.{◌≡◌, ℕ, ◌+◌, ◌⊎◌, ◌≤◌, ◌^◌, ◌<◌, false, cond, replicate, set, List, Option, Some, None, IsSomeAnd, min, bit_and, bit_or, pos, inl, inr, slice_index, refl, sym, ap, ◌∙◌, subst, arith}
use Rattle.std.proofs.lemmas.List.{get_or-replicate}
use Rattle.std.proofs.lemmas.List.Elements.{All-replicate}
use Rattle.std.specs.Int.{bit_at}
use Rattle.std.proofs.lemmas.Bool.{cases_lt, cases_eq, false≢true}
use Rattle.std.proofs.lemmas.Int.{ints}
use Rattle.std.proofs.lemmas.Nat.{and_le_r, or_lt}
use Rattle.std.proofs.lemmas.Nat.Bits.{bit_at_and, bit_at_or, bit_at-lt, bit_at-zero, bit_at_above, bit_at-pow_other}
use Rattle.kc_bits.specs.KnownBits.{KnownBits}
use Rattle.kc_bits.specs.Bits.{IsValid as AreBitsValid, StandsFor, flipped, word}
use Rattle.kc_bits.proofs.Masks.{bit_at-flipped}
use Rattle.kc_insn.specs.declared.insn.Insn.{Insn}
use Rattle.kc_image.specs.Image.{Contents}
use Rattle.kc_regions.specs.Description.{Description}
use Rattle.kc_regions.specs.Valid.{IsValid}
use Rattle.kc_regions.specs.declared.entry.AfterIf.{AfterIf}
use Rattle.kc_regions.specs.declared.entry.AfterIf.TheVariants.{Keep, On, Off, Any as Either}
use Rattle.kc_regions.specs.declared.entry.Handler.{Handler}
use Rattle.kc_cpu.specs.declared.cpu.Call.{Call}
use Rattle.kc_cpu.specs.declared.cpu.Mode.{Mode}
use Rattle.kc_exec.specs.Admitted.{model_flags}
use Rattle.kc_exec.specs.declared.state.State.{State}
use Rattle.kc_events.specs.declared.turn.LeaveSet.{LeaveSet}
use Rattle.kc_events.specs.declared.turn.Turn.TheVariants.{Leave}
use Rattle.kc_events.specs.Allowed.{AreModelFlags, InHandler, KeepsIf, MayLeave, IsAllowed}
use Rattle.kc_events.specs.Attempt.{Attempt, idle, inside}
use Rattle.kc_exec.specs.Execution.{stops}
use Rattle.kc_exec.specs.declared.executed.ExecEnd.{ExecEnd}
use Rattle.kc_events.specs.Breaks.{EndsWith, BreaksWith}
use Rattle.kc_events.specs.Run.{after, Breaks, Steps}
use Rattle.kc_events.specs.Run.Steps.{Refused, Halted, Done}
use Rattle.kc_events.specs.Turns.{given_back, after_leave}
use Rattle.kc_value.specs.Value.{IsValidValue, Represents, value_top}
use Rattle.kc_value.specs.AbsValue.{AbsValue}
use Rattle.kc_value.specs.declared.env.ValueEnv.{ValueEnv}
use Rattle.kc_state.specs.Calls.{left_if, left_flags, left_registers, left, left_of, called_handler, after_handler}
use Rattle.kc_state.specs.State.{IsState}
use Rattle.kc_state.specs.declared.key.Key.{Key}
use Rattle.kc_state.specs.declared.state.AbsState.{AbsState}
use Rattle.kc_arith.proofs.MarkLemmas.{KnownAt, known_at, stands_from, apart_from}
use Rattle.kc_describes.specs.Chain.{env_of}
use Rattle.kc_describes.specs.Describes.{Describes}
use Rattle.kc_describes.specs.Row.{value_at, CallStands, FileStands}
use Rattle.kc_describes.specs.Widths.{IsCall, IsMode}
use Rattle.kc_describes.proofs.OperandLemmas.{AreRegisters, set_register, word_at, value_at_valid}
use Rattle.kc_describes.proofs.ShiftLemmas.{IsMove, shift_stands}
use Rattle.kc_describes.proofs.ValidLemmas.{top_valid, shifted_valid}
use Rattle.kc_describes.proofs.ValueLemmas.{bits_stand, top_stands}
use Rattle.kc_calls.specs.Laws.{body_of, code_at, IsLeaveSet, IsLeaveCovered}
use Rattle.kc_calls.proofs.InsideLemmas.{IsRunning, running_of, like_described}

-- ---- RFLAGS

-- a flag of the mask 2^k has no other place
lone : (k i : ℕ) → (i ≡ k) ⊎ (bit_at (2 ^ k) i ≡ 0)
lone k i = elim (cases_eq i k) [
  | inl e ↦ inl e
  | inr other ↦ inr (bit_at-pow_other k i other)
]

-- what is known of IF
if_known : (b : KnownBits) (a : AfterIf) (before n i : ℕ) → StandsFor b before → KeepsIf a before n
    → KnownAt (left_if b a) n i
if_known b Keep before n i known keeps =
    let zeros = bit_at_and b.zeros 0x200 i in
    let ones = bit_at_and b.ones 0x200 i in
    elim (lone 9 i) [
      | inl e ↦
          let at : bit_at n i ≡ bit_at before i =
          subst (λ j. bit_at n j ≡ bit_at before j) (sym e) keeps in
          let was = known_at b before i known in (
            omega (arith, zeros, at, was.0, bit_at-lt (bit_and b.zeros 0x200) i),
            omega (arith, ones, at, was.1),
          )
      | inr none ↦ (omega (arith, zeros, none, bit_at-lt n i), omega (arith, ones, none))
    ]
if_known b On before n i known keeps = elim (lone 9 i) [
  | inl e ↦
      let at : bit_at n i ≡ 1 = subst (λ j. bit_at n j ≡ 1) (sym e) keeps in
      (omega (arith, bit_at-zero i, at), omega (arith, at, bit_at-lt 0x200 i))
  | inr none ↦ (omega (arith, bit_at-zero i, bit_at-lt n i), omega (arith, none))
]
if_known b Off before n i known keeps = elim (lone 9 i) [
  | inl e ↦
      let at : bit_at n i ≡ 0 = subst (λ j. bit_at n j ≡ 0) (sym e) keeps in
      (omega (arith, at, bit_at-lt 0x200 i), omega (arith, bit_at-zero i))
  | inr none ↦ (omega (arith, none, bit_at-lt n i), omega (arith, bit_at-zero i))
]
if_known b Either before n i known keeps =
    (omega (arith, bit_at-zero i, bit_at-lt n i), omega (arith, bit_at-zero i))

if_fits : (b : KnownBits) (a : AfterIf) → ((left_if b a).zeros < 2 ^ 64) × ((left_if b a).ones < 2 ^ 64)
if_fits b Keep =
    let z = and_le_r b.zeros 0x200 in
    let o = and_le_r b.ones 0x200 in
    (omega (arith, z), omega (arith, o))
if_fits b On = (omega arith, omega arith)
if_fits b Off = (omega arith, omega arith)
if_fits b Either = (omega arith, omega arith)

modelled_at : (n i : ℕ) → AreModelFlags n → bit_at n i ≤ bit_at model_flags i
modelled_at n i m =
    let e : min (bit_at n i) (bit_at model_flags i) ≡ bit_at n i =
    sym (bit_at_and n model_flags i) ∙ ap (λ v. bit_at v i) m.modelled in
    omega (arith, e)

module _ (b : KnownBits) (a : AfterIf) (before n : ℕ) (known : StandsFor b before) (fits : n < 2 ^ 64)
    (model : AreModelFlags n) (forward : bit_at n 10 ≡ 0) (keeps : KeepsIf a before n) where
  -- outside the model and at DF there is no flag
  unset_at : (i : ℕ) → bit_at (bit_or (flipped model_flags) 0x400) i + bit_at n i ≤ 1
  unset_at i =
      let zeros = bit_at_or (flipped model_flags) 0x400 i in
      elim (cases_lt i 64) [
        | inl k ↦
            let out = bit_at-flipped model_flags i (omega arith) k in
            let inside = modelled_at n i model in
            elim (lone 10 i) [
              | inl e ↦
                  let at : bit_at n i ≡ 0 = subst (λ j. bit_at n j ≡ 0) (sym e) forward in
                  omega (arith, at, bit_at-lt (bit_or (flipped model_flags) 0x400) i)
              | inr none ↦ omega (arith, zeros, none, out, inside, bit_at-lt model_flags i, bit_at-lt n i)
            ]
        | inr k ↦
            let at = bit_at_above n 64 i fits k in
            omega (arith, at, bit_at-lt (bit_or (flipped model_flags) 0x400) i)
      ]

  -- bit 1 is set
  fixed_at : (i : ℕ) → bit_at 2 i ≤ bit_at n i
  fixed_at i = elim (lone 1 i) [
    | inl e ↦
        let at : bit_at n i ≡ 1 = subst (λ j. bit_at n j ≡ 1) (sym e) model.fixed in omega (arith, at, bit_at-lt 2 i)
    | inr none ↦ omega (arith, none)
  ]

  flags_at : (i : ℕ) → KnownAt (left_flags b a) n i
  flags_at i =
      let about = if_known b a before n i known keeps in (
        omega (
          arith,
          bit_at_or (bit_or (flipped model_flags) 0x400) (left_if b a).zeros i,
          unset_at i,
          about.0,
          bit_at-lt (bit_or (flipped model_flags) 0x400) i,
          bit_at-lt (left_if b a).zeros i,
        ),
        omega (arith, bit_at_or 2 (left_if b a).ones i, fixed_at i, about.1),
      )

  pub flags_known : StandsFor (left_flags b a) n
  flags_known = stands_from (left_flags b a) n flags_at

  pub flags_valid : AreBitsValid (left_flags b a)
  flags_valid = record {
    zeros_fit =
        or_lt 64 (bit_or (flipped model_flags) 0x400) (left_if b a).zeros (omega arith) (if_fits b a).0;
    ones_fit = or_lt 64 2 (left_if b a).ones (omega arith) (if_fits b a).1;
    apart = apart_from (left_flags b a) n flags_known;
  }

-- ---- nothing breaks

-- no access and no other byte: there is nothing to judge
abbrev ended : State → Call → LeaveSet → Attempt
ended S call l = record (idle S) { cpu = after_leave S.cpu call l }

not_elsewhere : (cfg : Description) (found : Option (Insn × ℕ)) (S : State) (l : LeaveSet)
    (P : Insn → ExecEnd → Type 0) → EndsWith cfg found S (Leave l) P → ⊥
not_elsewhere cfg None S l P h = absurd h
not_elsewhere cfg (Some (insn, n)) S l P h = absurd h

quiet_turn : (cfg : Description) (found : Option (Insn × ℕ)) (S : State) (call : Call) (l : LeaveSet) (b : ℕ)
    → BreaksWith cfg found S (Leave l) (ended S call l) b → ⊥
quiet_turn cfg found S call l b (inl first) = let is = first.1 in absurd cc
quiet_turn cfg found S call l b (inr (inl second)) =
    let none : second.1.1.0 < 0 = second.1.1.1 in absurd (omega (arith, none))
quiet_turn cfg found S call l b (inr (inr (inl third))) =
    let none : third.1.2.0 < 0 = third.1.2.1 in absurd (omega (arith, none))
quiet_turn cfg found S call l b (inr (inr (inr (inl fourth)))) = elim fourth.1.1 [
  | inl access ↦ let none : access.1.0 < 0 = access.1.1 in absurd (omega (arith, none))
  | inr besides ↦ let none : besides.1.0 < 0 = besides.1.1 in absurd (omega (arith, none))
]
quiet_turn cfg found S call l b (inr (inr (inr (inr both)))) = elim both.1 [
  | inl fifth ↦ not_elsewhere cfg found S l _ fifth.1
  | inr later ↦ elim later [
    | inl sixth ↦ not_elsewhere cfg found S l _ sixth
    | inr eighth ↦ not_elsewhere cfg found S l _ eighth.1
  ]
]

-- ---- the state after

up_move : IsMove (pos 8)
up_move = inl (omega (arith, ints))

module _ (cfg : Description) (valid : IsValid cfg) (key : Key) (at : ℕ) (insn : Insn) (len : ℕ) (s : AbsState)
    (is : IsState s) (S : State) (l : LeaveSet) (typed : IsLeaveSet l)
    (D : Describes cfg key (body_of at) (Some (insn, len)) s S) where
  abbrev env : ValueEnv
  env = env_of cfg S.chain

  -- a register that the handler gives back
  abbrev Put : List AbsValue → List ℕ → Type 0
  Put values regs = AreRegisters env values regs

  put : (values : List AbsValue) (regs : List ℕ) (r n : ℕ) (v : AbsValue) → Put values regs → IsValidValue v
      → n < 2 ^ 64 → Represents v env n → Put (set values r v) (set regs r n)
  put values regs r n v are ok fits stands =
      set_register cfg valid key S.chain D.chain D.typed.chain values regs r n v are ok fits stands

  abbrev none_known : List AbsValue
  none_known = replicate 16 value_top

  top_at : (i : ℕ) → i < 16 → value_at none_known i ≡ value_top
  top_at i inside = get_or-replicate 16 i value_top value_top inside

  unknown_registers : Put none_known l.regs
  unknown_registers = record {
    count = refl;
    valid = All-replicate IsValidValue 16 value_top top_valid;
    size = typed.regs.0;
    words = typed.regs.1;
    stand = λ i inside. subst (λ v. Represents v env (slice_index l.regs i)) (sym (top_at i inside))
        (top_stands cfg valid env refl (slice_index l.regs i));
  }

  module _ (call : Call) (ok : IsCall call) (file : CallStands env s call) where
    abbrev kept : ℕ → ℕ
    kept i = slice_index call.kept i

    kept_fits : (i : ℕ) → kept i < 2 ^ 64
    kept_fits i = word_at call.kept i ok.kept.1

    known : (r : ℕ) → IsValidValue (value_at s.regs r)
    known r = value_at_valid s.regs r is.regs

    registers_left : Put (left_registers cfg key s.regs) (given_back call l.regs)
    registers_left =
        let a = put _ _ 3 (kept 0) _ unknown_registers (known 3) (kept_fits 0) file.rbx in
        let b = put _ _ 5 (kept 1) _ a (known 5) (kept_fits 1) file.rbp in
        let c = put _ _ 12 (kept 2) _ b (known 12) (kept_fits 2) file.r12 in
        let d = put _ _ 13 (kept 3) _ c (known 13) (kept_fits 3) file.r13 in
        let e = put _ _ 14 (kept 4) _ d (known 14) (kept_fits 4) file.r14 in
        let f = put _ _ 15 (kept 5) _ e (known 15) (kept_fits 5) file.r15 in
        put _ _ 4 (word (call.rsp + 8)) _ f (shifted_valid cfg valid key (value_at s.regs 4) (pos 8) (known 4))
        (omega arith)
        (shift_stands cfg valid key S.chain D.chain (value_at s.regs 4) call.rsp (pos 8) (known 4) ok.rsp file.rsp
        up_move)

    left_described : (h : Handler) (found : Option (Insn × ℕ)) (t : ℕ) → MayLeave call h l → call.back ≡ t
        → Describes cfg key (code_at t) found (left cfg key h s) (after S (ended S call l))
    left_described h found t may back =
        let known = flags_known s.flags.bits h.after_if call.flags l.flags file.flags.bits typed.flags may.flags
        may.forward may.interrupts in
        let bits = flags_valid s.flags.bits h.after_if call.flags l.flags file.flags.bits typed.flags may.flags
        may.forward may.interrupts in
        record {
          typed = record {
            cpu = record {
              regs = (registers_left.size, registers_left.words);
              rip = ok.back;
              flags = typed.flags;
              cs = D.typed.cpu.cs;
              ss = D.typed.cpu.ss;
              gs = D.typed.cpu.gs;
              kgs = D.typed.cpu.kgs;
              cr3 = D.typed.cpu.cr3;
              mode = tt;
            };
            mem = D.typed.mem;
            chain = D.typed.chain;
          };
          running = D.running;
          chain = D.chain;
          floors = D.floors;
          file = record {
            each = registers_left.stand;
            rflags = bits_stand cfg valid env refl (left_flags s.flags.bits h.after_if) l.flags bits typed.flags known;
          };
          spaces = record {
            gs = record { active = D.spaces.gs.active; inactive = D.spaces.gs.inactive };
            map = D.spaces.map;
            latches = D.spaces.latches;
          };
          slots = D.slots;
          bare = D.bare;
          kernel = record { cs = D.kernel.cs; ss = D.kernel.ss; flags = may.flags };
          point = (refl, back);
        }

  -- ---- the turn

  abbrev turn : Mode → Attempt
  turn mode = inside mode (idle S) (λ call. ended S call l)

  covered_by : (image : Contents) (here : Option (Insn × ℕ)) → IsAllowed cfg here S (Leave l)
      → IsRunning cfg key at insn len s S → IsLeaveCovered cfg image key at insn len s S l
  covered_by image here allowed r = record { out = out; known = known; quiet = quiet; goes = goes }
    where
      out : AbsState
      out = left cfg key r.handler s

      may : MayLeave r.call r.handler l
      may =
          let in_mode = subst (λ m. InHandler cfg m (λ call h. MayLeave call h l)) r.mode allowed.1 in
          subst (λ o. IsSomeAnd o (λ h. MayLeave r.call h l)) r.contract in_mode

      known : after_handler cfg key s insn ≡ Some out
      known =
          subst (λ i. after_handler cfg key s i ≡ Some out) (sym r.calls)
          (ap (λ o. left_of cfg key s (called_handler cfg o)) r.number ∙ (ap (λ o. left_of cfg key s o) r.contract
          ∙ ap (λ b. cond b (Some out) None) may.returns))

      judged_quiet : (found : Option (Insn × ℕ)) (b : ℕ) → BreaksWith cfg found S (Leave l) (turn S.cpu.mode) b → ⊥
      judged_quiet found b h =
          quiet_turn cfg found S r.call l b (subst (λ m. BreaksWith cfg found S (Leave l) (turn m) b) r.mode h)

      quiet : (b : ℕ) → Breaks cfg image S (Leave l) b → ⊥
      quiet b h = judged_quiet h.found b h.broken

      unstopped : stops cfg (turn S.cpu.mode).accesses ≡ false
      unstopped = subst (λ m. stops cfg (turn m).accesses ≡ false) (sym r.mode) refl

      file : CallStands env s r.call
      file = subst (FileStands env s S.cpu) r.mode D.file

      ok : IsCall r.call
      ok = subst IsMode r.mode D.typed.cpu.mode

      described : (found : Option (Insn × ℕ))
          → Describes cfg key (code_at (word (at + len))) found out (after S (turn S.cpu.mode))
      described found =
          subst (λ m. Describes cfg key (code_at (word (at + len))) found out (after S (turn m))) (sym r.mode)
          (left_described r.call ok file r.handler found (word (at + len)) may r.back)

      goes : (found : Option (Insn × ℕ)) (T : State) → Steps cfg image S (Leave l) T
          → Describes cfg key (code_at (word (at + len))) found out T
      goes found T (Refused here' fetched refused like) = absurd (refused (allowed.0, allowed.1))
      goes found T (Halted (inl stopped) like) = let e = stopped.stops in absurd (false≢true (sym unstopped ∙ e))
      goes found T (Halted (inr (b, breaks)) like) = absurd (quiet b breaks)
      goes found T (Done here' fetched may' runs free like) =
          like_described cfg key (code_at (word (at + len))) found out T (after S (turn S.cpu.mode)) like
          (described found)

  pub leave_covered : (image : Contents) (here : Option (Insn × ℕ)) → IsAllowed cfg here S (Leave l)
      → IsLeaveCovered cfg image key at insn len s S l
  leave_covered image here allowed = covered_by image here allowed (running_of cfg key at insn len s S D)
