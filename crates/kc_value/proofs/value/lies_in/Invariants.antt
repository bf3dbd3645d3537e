use Rattle.std.proofs.Common.{◌≡◌, ℕ, ◌<◌, true, false}
use Rattle.std.specs.Int.{bit_at}
use Rattle.kc_words.specs.Span.{Holds}
use Rattle.kc_value.specs.Place.{stack_at}
use Rattle.kc_value.proofs.value.lies_in.Given as goal

-- no stack before s that holds n is in the set, and outside says whether any holds it
abbrev pub invariant-loop-s : goal.invariant-loop-s
invariant-loop-s l = record {
  not_in_set : (t : ℕ) → t < l.s → Holds (stack_at l.stacks t) l.n → bit_at l.set t ≡ 1 → ⊥;
  none_holds : l.outside ≡ true → (t : ℕ) → t < l.s → Holds (stack_at l.stacks t) l.n → ⊥;
  one_holds : l.outside ≡ false → (t : ℕ) × (t < l.s) × Holds (stack_at l.stacks t) l.n;
}
