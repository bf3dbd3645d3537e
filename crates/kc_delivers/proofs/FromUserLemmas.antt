-- An event that interrupts the user: the word of the TSS that is taken is the constant that the user state knows, so
-- the base is constant; no byte is live.
use Rattle.std.proofs.Common.{◌≡◌, ℕ, ◌%◌, ◌<◌, ◌≤◌, ◌==◌, ◌&&◌, nat_lt, if◌then◌else◌, Bool, true, false, cond, inl, inr, [], Option, Some, None, IfSome, refl, sym, ap, ◌∙◌, subst, arith}
use Rattle.std.proofs.lemmas.Bool.{and_parts, lt-ltb, false≢true}
use Rattle.kc_image.specs.Image.{Contents}
use Rattle.kc_bits.specs.Bits.{word, bits_single}
use Rattle.kc_regions.specs.Description.{Description}
use Rattle.kc_regions.specs.Lookup.{gate_of, tss_word}
use Rattle.kc_regions.specs.Valid.{IsValid}
use Rattle.kc_regions.specs.declared.entry.Gate.{Gate}
use Rattle.kc_rules.proofs.AnswerLemmas.{some_is}
use Rattle.kc_rules.proofs.TestLemmas.{chosen}
use Rattle.kc_cpu.specs.declared.cpu.Mode.{Mode}
use Rattle.kc_cpu.specs.declared.cpu.Mode.TheVariants.{User}
use Rattle.kc_mem.specs.Memory.{read}
use Rattle.kc_mem.proofs.NumberLemmas.{read_word}
use Rattle.kc_exec.specs.declared.state.State.{State}
use Rattle.kc_events.specs.Delivery as machine
use Rattle.kc_events.specs.declared.turn.Turn.{Turn}
use Rattle.kc_state.specs.AbsDelivery as known
use Rattle.kc_state.specs.Operand.{number_value}
use Rattle.kc_state.specs.Places.{below_address, word_of}
use Rattle.kc_state.specs.User.{IsUserState}
use Rattle.kc_state.specs.declared.interrupted.Interrupted.{Interrupted}
use Rattle.kc_state.specs.declared.key.Key.{Key}
use Rattle.kc_state.specs.declared.location.Location.TheVariants.{Number}
use Rattle.kc_state.specs.declared.state.AbsState.{AbsState}
use Rattle.kc_state.specs.declared.user.UserState.{UserState}
use Rattle.kc_describes.specs.Chain.{env_of}
use Rattle.kc_describes.specs.Row.{value_at}
use Rattle.kc_describes.specs.User.{UserDescribes}
use Rattle.kc_describes.proofs.OperandLemmas.{value_at_valid}
use Rattle.kc_describes.proofs.ValueLemmas.{single_is}
use Rattle.kc_arrivals.specs.Arrivals.{vector_of}
use Rattle.kc_delivers.specs.Delivered.{Enters, MayComeIn, UserDeliveryIsCovered}
use Rattle.kc_delivers.proofs.AdmittedLemmas.{interrupted}
use Rattle.kc_delivers.proofs.ConstantLemmas.{enters_from}
use Rattle.kc_delivers.proofs.InterruptedLemmas.{made}
use Rattle.kc_delivers.proofs.PermittedLemmas.{gate_in_range, tss_fits}
use Rattle.kc_delivers.proofs.SyscallLemmas.{none_live, none_live_floors}
use Rattle.kc_delivers.proofs.TurnLemmas.{code_of}

first : {A : Type 0} (b : Bool) (x y : A) → b ≡ true → cond b x y ≡ x
first true x y e = refl
first false x y e = absurd (false≢true e)

module _ (cfg : Description) (valid : IsValid cfg) (u : UserState) (ok : IsUserState u) (S : State)
    (U : UserDescribes cfg u S) where
  abbrev pub i : Interrupted
  i = known.interrupted_user cfg u

  -- some key, by which the words of the TSS are named
  abbrev pub some_key : Key
  some_key = known.syscall_key cfg u

  tss_slot : (n : ℕ) → n < 8 → word_of cfg some_key n ≡ Some (Number (word (tss_word cfg.cpu.tss n)))
  tss_slot n few = first (nat_lt n 8) _ _ (lt-ltb n 8 few)

  -- the word is the constant that is known
  word_is : (n c : ℕ) → n < 8 → bits_single (value_at u.slots n).bits ≡ Some c
      → read S.mem.bytes (tss_word cfg.cpu.tss n) 8 ≡ c
  word_is n c few e =
      let fits = tss_fits cfg n valid few in
      let same : word (tss_word cfg.cpu.tss n) ≡ tss_word cfg.cpu.tss n = omega (arith, fits) in
      let stands = (U.words some_key n (Number (word (tss_word cfg.cpu.tss n))) (omega (arith, few)) (tss_slot n few)).1
      in
      ap (λ a. read S.mem.bytes a 8) (sym same)
      ∙ single_is (value_at u.slots n) (env_of cfg []) (read S.mem.bytes (word (tss_word cfg.cpu.tss n)) 8) c
      (value_at_valid u.slots n ok.0)
      (read_word S.mem.bytes (word (tss_word cfg.cpu.tss n)) 8 (omega arith) U.typed.mem) stands e

  -- where user code is interrupted a word is taken
  chosen_by : (o : Option ℕ) (c : ℕ) → IfSome o (λ n. n < 8) → known.chosen_rsp u.slots None o ≡ Some c
      → machine.chosen_rsp cfg S.mem.bytes S.cpu o ≡ c
  chosen_by (Some n) c few e = word_is n c few e
  chosen_by None c few e = absurd cc

  few_taken : (ist : ℕ) → ist ≤ 7 → IfSome (known.stack_taken ist false) (λ n. n < 8)
  few_taken ist few = by (ist == 0)
    where
      by : (b : Bool) → IfSome (if b then Some 0 else Some ist) (λ n. n < 8)
      by true = omega arith
      by false = omega (arith, few)

  same_taken : (ist : ℕ) (m : Mode) → m ≡ User → known.stack_taken ist false ≡ machine.stack_taken ist m
  same_taken ist m is = sym (ap (machine.stack_taken ist) is)

  base_is : (g : Gate) (c : ℕ) → g.ist ≤ 7 → known.chosen_rsp u.slots None (known.stack_taken g.ist false) ≡ Some c
      → machine.base_of cfg S.mem.bytes S.cpu g ≡ known.aligned c
  base_is g c few e =
      ap (λ o. known.aligned (machine.chosen_rsp cfg S.mem.bytes S.cpu o)) (sym (same_taken g.ist S.cpu.mode U.mode))
      ∙ ap known.aligned (chosen_by (known.stack_taken g.ist false) c (few_taken g.ist few) e)

  aligned_is : (c : ℕ) → known.aligned c % 16 ≡ 0
  aligned_is c = omega arith

  module _ (image : Contents) (turn : Turn) (v : ℕ) (key : Key) (s : AbsState) (delivers : vector_of turn ≡ Some v)
      (comes : MayComeIn cfg image S turn) where
    from_base : (g : Gate) (c : ℕ) → gate_of cfg.gates v ≡ Some g
        → known.chosen_rsp u.slots None (known.stack_taken g.ist false) ≡ Some c
        → known.delivered_from cfg i u.slots g (known.aligned c) ≡ Some (key, s)
        → Enters cfg image key g.entry s S turn
    from_base g c found constant e =
        let base = known.aligned c in
        let n = known.frame_size g.vector in
        let touch = known.may_touch cfg i.map g.vector (known.stack_taken g.ist i.kernel) in
        let push = known.may_push cfg i.map i.floors base n in
        let entry : Key × AbsState = (
          known.entered_key i g.vector (Some base),
          known.entered i u.slots g (number_value cfg (below_address base n)) i.floors,
        ) in
        let gate = gate_in_range cfg v g valid found in
        elim (chosen (touch && push) (Some entry) None (Some (key, s)) e) [
          | inl h ↦
              let p = and_parts touch push h.0 in
              subst (λ (z : Key × AbsState). Enters cfg image z.0 g.entry z.1 S turn) (some_is entry (key, s) h.1)
              (enters_from cfg valid i u.slots S S.cpu.gs (interrupted cfg valid u ok S U) g gate (code_of turn) base
              (aligned_is c) (base_is g c gate.ist constant) (same_taken g.ist S.cpu.mode U.mode) p.0 p.1
              (λ x low high. none_live cfg valid u ok S U (made S.cpu false g.vector base) x refl)
              (none_live_floors cfg valid u ok S U i.floors base (made S.cpu false g.vector base) refl) image turn v
              delivers refl found comes)
          | inr h ↦ absurd cc
        ]

    from_rsp : (g : Gate) (o : Option ℕ) → gate_of cfg.gates v ≡ Some g
        → known.chosen_rsp u.slots None (known.stack_taken g.ist false) ≡ o
        → known.delivered_at cfg i u.slots g o ≡ Some (key, s) → Enters cfg image key g.entry s S turn
    from_rsp g (Some c) found constant e = from_base g c found constant e
    from_rsp g None found constant e = absurd cc

    by_gate : (o : Option Gate) → gate_of cfg.gates v ≡ o
        → known.by_gate (λ g. known.delivered_at cfg i u.slots g
        (known.chosen_rsp u.slots None (known.stack_taken g.ist false))) o ≡ Some (key, s)
        → (g : Gate) × (gate_of cfg.gates v ≡ Some g) × Enters cfg image key g.entry s S turn
    by_gate (Some g) found e =
        (g, found, from_rsp g (known.chosen_rsp u.slots None (known.stack_taken g.ist false)) found refl e)
    by_gate None found e = absurd cc

pub user_delivery_is_covered : UserDeliveryIsCovered
user_delivery_is_covered cfg image u S turn v key s valid ok U delivers comes e =
    by_gate cfg valid u ok S U image turn v key s delivers comes (gate_of cfg.gates v) refl e
