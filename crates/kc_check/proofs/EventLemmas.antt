-- The events that are left at a node, with the first ones that failed C15 and C16 so far: the laws of PassLemmas at the
-- three conditions of an event, for the loop over the vectors.
use Rattle.std.proofs.Common.{◌≡◌, ℕ, ◌+◌, ◌<◌, ◌≤◌, true, false, length, get_or, drop, List, Option, Some, None, Bool, Result, Err, refl, ◌∙◌}
use Rattle.std.specs.Prelude.{is_some}
use Rattle.kc_image.specs.Image.{Contents}
use Rattle.kc_regions.specs.Description.{Description}
use Rattle.kc_regions.specs.declared.entry.Gate.{Gate}
use Rattle.kc_rules.specs.Rules.{◌>>=◌}
use Rattle.kc_state.specs.AbsEvents.{comes, is_gate}
use Rattle.kc_cert.specs.Conditions.{is_event_counted, is_event_covered, is_return_covered}
use Rattle.kc_cert.specs.FirstRefusal.{at_event}
use Rattle.kc_cert.specs.Placed.{Placed, vectors_in_order}
use Rattle.kc_cert.specs.declared.certificate.Certificate.{Certificate}
use Rattle.kc_cert.specs.declared.certificate.Context.{Context}
use Rattle.kc_cert.specs.declared.certificate.Node.{Node}
use Rattle.kc_cert.specs.declared.refusal.Refusal.{Refusal}
use Rattle.kc_check.specs.Events.{events_refusal, failed_at, failed_refusal, first_failed}
use Rattle.kc_check.proofs.PassLemmas.{Asked, failed, pass, pass-end, pass-failed, pass-next, pass-skipped}

-- an event that comes has a gate
pub comes_by_gate : (test : Gate → Bool) (gate : Option Gate) → is_gate test gate ≡ true → is_some gate ≡ true
comes_by_gate test (Some g) e = refl
comes_by_gate test None e = absurd cc

-- a node with its instruction, and its context, of which events are asked
pub record AtNode : Type 0 where
  pub image : Contents
  pub d : Description
  pub cert : Certificate
  pub c : Context
  pub n : Node
  pub p : Placed

abbrev pub may_come : AtNode → ℕ → Bool
may_come x v = comes x.d x.p.key x.p.site x.p.state x.p.insn x.p.len v

abbrev pub covered : AtNode → Asked Refusal
covered x = record { holds = is_event_covered x.d x.cert x.p; refusal = at_event x.n 14 }

abbrev pub kept : AtNode → Asked Refusal
kept x = record { holds = is_return_covered x.image x.d x.cert x.p; refusal = at_event x.n 15 }

abbrev pub counted : AtNode → Asked Refusal
counted x = record {
  holds = is_event_counted x.image x.d x.cert x.c.summary.clobber x.p;
  refusal = at_event x.n 16;
}

-- what the events that are left answer, where C15 and C16 failed already at these
unfoldable pub events_left : AtNode → Option ℕ → Option ℕ → List ℕ → Result (Unit {0}) Refusal
events_left x f g vs = pass (may_come x) (covered x) (kept x) (counted x) f g vs

pub left-skipped : (x : AtNode) (f g : Option ℕ) (vs : List ℕ) (i : ℕ) → i < length vs
    → may_come x (get_or vs i 0) ≡ false
    → events_left x f g (drop i vs) ≡ events_left x f g (drop (i + 1) vs)
unfolding events_left
left-skipped x f g vs i h e = pass-skipped (may_come x) (covered x) (kept x) (counted x) f g vs i h e

pub left-next : (x : AtNode) (f g : Option ℕ) (vs : List ℕ) (i : ℕ) → i < length vs
    → may_come x (get_or vs i 0) ≡ true → (covered x).holds (get_or vs i 0) ≡ true
    → events_left x f g (drop i vs)
    ≡ events_left x (first_failed f ((kept x).holds (get_or vs i 0)) (get_or vs i 0))
    (first_failed g ((counted x).holds (get_or vs i 0)) (get_or vs i 0)) (drop (i + 1) vs)
unfolding events_left
left-next x f g vs i h e holds = pass-next (may_come x) (covered x) (kept x) (counted x) f g vs i h e holds

pub left-failed : (x : AtNode) (f g : Option ℕ) (vs : List ℕ) (i : ℕ) → i < length vs
    → may_come x (get_or vs i 0) ≡ true → (covered x).holds (get_or vs i 0) ≡ false
    → events_left x f g (drop i vs) ≡ Err (at_event x.n 14 (get_or vs i 0))
unfolding events_left
left-failed x f g vs i h e fails = pass-failed (may_come x) (covered x) (kept x) (counted x) f g vs i h e fails

failed-kept : (x : AtNode) (f : Option ℕ) → failed (kept x) f ≡ failed_at x.n 15 f
failed-kept x (Some v) = refl
failed-kept x None = refl

failed-counted : (x : AtNode) (g : Option ℕ) → failed (counted x) g ≡ failed_at x.n 16 g
failed-counted x (Some v) = refl
failed-counted x None = refl

pub left-end : (x : AtNode) (f g : Option ℕ) (vs : List ℕ) (i : ℕ) → length vs ≤ i
    → events_left x f g (drop i vs) ≡ failed_refusal x.n f g
unfolding events_left
left-end x f g vs i h =
    pass-end (may_come x) (covered x) (kept x) (counted x) f g vs i h
    ∙ (λ j. failed-kept x f j >>= λ ok. failed-counted x g j)

-- all are left at the start
pub left-all : (x : AtNode) → events_left x None None (vectors_in_order x.d) ≡ events_refusal x.image x.d x.cert x.c x.n x.p
unfolding events_left
left-all x = refl
