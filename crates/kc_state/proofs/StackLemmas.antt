-- A stack that holds an address has a number below 16, since a description has at most 16 stacks.
use Rattle.std.proofs.Common.{◌≡◌, ℕ, ◌<◌, Option, Some, None, nat_lt, length, inl, inr, refl, arith}
use Rattle.std.specs.List.{position_or_len}
use Rattle.std.proofs.lemmas.Bool.{ltb-true}
use Rattle.kc_regions.specs.Description.{Description}
use Rattle.kc_regions.specs.Region.{holds, stacks_of, stack_of}
use Rattle.kc_regions.specs.Valid.{IsValid}
use Rattle.kc_regions.proofs.LayoutLemmas.{laid}
use Rattle.kc_rules.proofs.TestLemmas.{chosen}
use Rattle.kc_value.specs.Made.{IsPlace}

pub stack_below : (d : Description) (a s : ℕ) → IsValid d → stack_of d.regions a ≡ Some s → s < 16
stack_below d a s valid e =
    let at = position_or_len (λ r. holds r.span a) (stacks_of d.regions) in
    elim (chosen (nat_lt at (length (stacks_of d.regions))) (Some at) None (Some s) e) [
      | inl h ↦
          let below = ltb-true at (length (stacks_of d.regions)) h.0 in
          let same : at ≡ s = cc in
          omega (arith, below, same, (laid d valid).stack_count)
      | inr h ↦ absurd cc
    ]

place_of : (d : Description) (a : ℕ) (place : Option ℕ) → IsValid d → stack_of d.regions a ≡ place → IsPlace place
place_of d a (Some s) valid e = stack_below d a s valid e
place_of d a None valid e = tt

pub is_place : (d : Description) (a : ℕ) → IsValid d → IsPlace (stack_of d.regions a)
is_place d a valid = place_of d a (stack_of d.regions a) valid refl
