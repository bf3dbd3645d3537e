-- Events while the user runs: only NMIs and machine checks have conditions, by their latches. A vector that user code
-- raises has no turn of its own, or is one from 32 on, since only such gates may be named.
use Rattle.std.proofs.Common.{◌≡◌, ℕ, ◌<◌, ◌||◌, ◌==◌, ◌⊎◌, inl, inr, Bool, true, false, Option, Some, None, IsSome, IsSomeAnd, refl, sym, ◌∙◌, subst, arith}
use Rattle.std.proofs.lemmas.Bool.{cond_both, eqb-true, or_parts, eqb-false}
use Rattle.kc_insn.specs.declared.insn.Insn.{Insn}
use Rattle.kc_regions.specs.Description.{Description}
use Rattle.kc_regions.specs.Lookup.{gate_of}
use Rattle.kc_regions.specs.Valid.{IsValid}
use Rattle.kc_regions.specs.declared.entry.Gate.{Gate}
use Rattle.kc_rules.proofs.AnswerLemmas.{some_is}
use Rattle.kc_exec.specs.declared.state.State.{State}
use Rattle.kc_events.specs.Allowed.{IsDevice, IsTrap, IsAllowed, has_own_turn}
use Rattle.kc_events.specs.declared.turn.Turn.{Turn}
use Rattle.kc_events.specs.declared.turn.Turn.TheVariants.{Go, Irq, Nmi, Debug, Check, Fault, Trap, Syscall, User as UserTurn, Body, Leave}
use Rattle.kc_state.specs.AbsEvents.{may_be_clear, comes_from_user, user_comes}
use Rattle.kc_state.specs.declared.user.UserState.{UserState}
use Rattle.kc_describes.specs.User.{UserDescribes}
use Rattle.kc_arrivals.specs.Arrivals.{vector_of, UserEventIsAmong}
use Rattle.kc_arrivals.proofs.GateLemmas.{clear_latch, found_gate, by_gate, has_debug, has_nmi, has_page_fault, has_check}

pub some_and : {A : Type 0} (o : Option A) (P : A → Type 0) → IsSomeAnd o P → (x : A) × (o ≡ Some x) × P x
some_and (Some x) P h = (x, refl, h)
some_and None P h = absurd h

pub is_there : {A : Type 0} (o : Option A) (x : A) → o ≡ Some x → IsSome o
is_there o x e = subst (λ (z : Option _). IsSome z) (sym e) refl

module _ (cfg : Description) (u : UserState) (S : State) (valid : IsValid cfg) (D : UserDescribes cfg u S) where
  -- a gate comes where its vector is neither, or its latch may be clear
  free : (g : Gate) → (g.vector ≡ 2 → may_be_clear u.nmi_blocked ≡ true)
      → (g.vector ≡ 18 → may_be_clear u.mcip ≡ true) → comes_from_user u g ≡ true
  free g at_nmi at_check =
      let P = λ (b : Bool). b ≡ true in
      cond_both (g.vector == 2) _ _ P (λ h. at_nmi (eqb-true g.vector 2 h))
      (λ h. cond_both (g.vector == 18) _ _ P (λ k. at_check (eqb-true g.vector 18 k)) (λ k. refl))

  at_vector : (v : ℕ) → IsSome (gate_of cfg.gates v) → (v ≡ 2 → may_be_clear u.nmi_blocked ≡ true)
      → (v ≡ 18 → may_be_clear u.mcip ≡ true) → user_comes cfg u v ≡ true
  at_vector v there at_nmi at_check =
      by_gate (comes_from_user u) cfg.gates v (gate_of cfg.gates v) refl there
      (λ g e.
      let is = (found_gate cfg.gates v g e valid.ranges.gates).0 in
      free g (λ two. at_nmi (sym is ∙ two)) (λ check. at_check (sym is ∙ check)))

  trapped : (v : ℕ) → IsTrap cfg v → user_comes cfg u v ≡ true
  trapped v h =
      let g = some_and (gate_of cfg.gates v) (λ z. ((v < 32) × (has_own_turn v ≡ false)) ⊎ (z.user ≡ true)) h in
      let there = is_there (gate_of cfg.gates v) g.0 g.1 in
      elim g.2 [
        | inl own ↦
            let a = or_parts (v == 1) (v == 2 || (v == 14 || v == 18)) own.1 in
            let b = or_parts (v == 2) (v == 14 || v == 18) a.1 in
            let c = or_parts (v == 14) (v == 18) b.1 in
            at_vector v there (λ two. absurd (eqb-false v 2 b.0 two)) (λ check. absurd (eqb-false v 18 c.1 check))
        | inr named ↦
            let is = found_gate cfg.gates v g.0 g.1 valid.ranges.gates in
            let from = is.1.user named in
            at_vector v there (λ two. absurd (omega (arith, from, is.0, two)))
            (λ check. absurd (omega (arith, from, is.0, check)))
      ]

  device : (v : ℕ) → IsDevice cfg v → user_comes cfg u v ≡ true
  device v h =
      let g = some_and (gate_of cfg.gates v) (λ z. z.user ≡ false) h.1 in
      at_vector v (is_there (gate_of cfg.gates v) g.0 g.1) (λ two. absurd (omega (arith, h.0, two)))
      (λ check. absurd (omega (arith, h.0, check)))

  among : (found : Option (Insn × ℕ)) (turn : Turn) (v : ℕ) → IsAllowed cfg found S turn → vector_of turn ≡ Some v
      → user_comes cfg u v ≡ true
  among found (Irq w) v h e = subst (λ z. user_comes cfg u z ≡ true) (some_is w v e) (device w h.1.0)
  among found Nmi v h e =
      subst (λ z. user_comes cfg u z ≡ true) (some_is 2 v e)
      (at_vector 2 (has_nmi cfg valid) (λ two. clear_latch u.nmi_blocked S.latch.nmi_blocked D.nmi_blocked h.1)
      (λ check. absurd (omega (arith, check))))
  among found Debug v h e =
      subst (λ z. user_comes cfg u z ≡ true) (some_is 1 v e)
      (at_vector 1 (has_debug cfg valid) (λ two. absurd (omega (arith, two))) (λ check. absurd (omega (arith, check))))
  among found Check v h e =
      subst (λ z. user_comes cfg u z ≡ true) (some_is 18 v e)
      (at_vector 18 (has_check cfg valid) (λ two. absurd (omega (arith, two)))
      (λ check. clear_latch u.mcip S.latch.mcip D.mcip h.1))
  among found (Fault a code) v h e =
      subst (λ z. user_comes cfg u z ≡ true) (some_is 14 v e)
      (at_vector 14 (has_page_fault cfg valid) (λ two. absurd (omega (arith, two)))
      (λ check. absurd (omega (arith, check))))
  among found (Trap w code) v h e = subst (λ z. user_comes cfg u z ≡ true) (some_is w v e) (trapped w h.1.trap)
  among found Go v h e = absurd cc
  among found Syscall v h e = absurd cc
  among found (UserTurn b) v h e = absurd cc
  among found (Body b) v h e = absurd cc
  among found (Leave l) v h e = absurd cc

pub user_event_is_among : UserEventIsAmong
user_event_is_among cfg u S found turn v valid D h e = among cfg u S valid D found turn v h e
