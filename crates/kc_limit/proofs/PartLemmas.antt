-- The order of what may be missing: a missing value is below all, and the join with a value is the least upper bound.
-- Each law is that of the domain, by cases on what is there.
use Rattle.std.proofs.Common.{◌≡◌, ℕ, Bool, Option, Some, None, IfSome, refl, ap}
use Rattle.kc_lattice.specs.Laws.{Laws, AllAlike}
use Rattle.kc_cert.specs.IterationLimit.{also}
use Rattle.kc_limit.specs.Order.{IsPartBelow}

module _ {X : Type 0} {valid : X → Type 0} {below : X → X → Bool} {joined : X → X → X} {top_of : X → X} {rank : X → ℕ}
    (laws : Laws valid AllAlike below joined top_of rank) where
  abbrev Below : Option X → Option X → Type 0
  Below p q = IsPartBelow below p q

  pub part-refl : (p : Option X) → IfSome p valid → Below p p
  part-refl None h = tt
  part-refl (Some x) h = laws.below_refl x h

  pub part-trans : (p q r : Option X) → IfSome p valid → IfSome q valid → IfSome r valid → Below p q → Below q r
      → Below p r
  part-trans None q r hp hq hr h k = tt
  part-trans (Some x) None r hp hq hr h k = absurd h
  part-trans (Some x) (Some y) None hp hq hr h k = absurd k
  part-trans (Some x) (Some y) (Some z) hp hq hr h k = laws.below_trans x y z hp hq hr h k

  pub part-antisym : (p q : Option X) → IfSome p valid → IfSome q valid → Below p q → Below q p → p ≡ q
  part-antisym None None hp hq h k = refl
  part-antisym None (Some y) hp hq h k = absurd k
  part-antisym (Some x) None hp hq h k = absurd h
  part-antisym (Some x) (Some y) hp hq h k = ap Some (laws.below_antisym x y hp hq h k)

  pub also-valid : (p : Option X) (x : X) → IfSome p valid → valid x → valid (also joined p x)
  also-valid None x hp hx = hx
  also-valid (Some y) x hp hx = laws.join_valid y x hp hx tt

  pub also-left : (p : Option X) (x : X) → IfSome p valid → valid x → Below p (Some (also joined p x))
  also-left None x hp hx = tt
  also-left (Some y) x hp hx = laws.join_left y x hp hx tt

  pub also-right : (p : Option X) (x : X) → IfSome p valid → valid x → Below (Some x) (Some (also joined p x))
  also-right None x hp hx = laws.below_refl x hx
  also-right (Some y) x hp hx = laws.join_right y x hp hx tt

  pub also-least : (p : Option X) (x : X) (r : Option X) → IfSome p valid → valid x → IfSome r valid → Below p r
      → Below (Some x) r → Below (Some (also joined p x)) r
  also-least None x r hp hx hr h k = k
  also-least (Some y) x None hp hx hr h k = absurd k
  also-least (Some y) x (Some z) hp hx hr h k = laws.join_least y x z hp hx hr tt h k
