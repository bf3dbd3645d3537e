-- What a valid description says of a stack by its number: it has a byte, and the stack of a value is one of the
-- description's. Of gates: an IST is at most 7.
use Rattle.std.proofs.Common.{◌≡◌, ℕ, suc, ◌<◌, ◌≤◌, Bool, true, false, cond, List, [], ◌∷◌, length, nat_lt, Option, Some, None, IfSome, inl, inr, refl, sym, subst, arith}
use Rattle.std.specs.List.{All, find, position_or_len}
use Rattle.std.proofs.lemmas.Bool.{ltb-true}
use Rattle.kc_regions.specs.Description.{Description}
use Rattle.kc_regions.specs.Lookup.{gate_of}
use Rattle.kc_regions.specs.Ranges.{IsGateInRange}
use Rattle.kc_regions.specs.Region.{holds, stacks_of, stack_of, stack_at}
use Rattle.kc_regions.specs.Valid.{IsValid}
use Rattle.kc_regions.specs.declared.entry.Gate.{Gate}
use Rattle.kc_regions.specs.declared.region.Region.{Region}
use Rattle.kc_regions.proofs.LayoutLemmas.{laid}
use Rattle.kc_rules.proofs.TestLemmas.{chosen}
use Rattle.kc_value.specs.AbsValue.{AbsValue}
use Rattle.kc_value.specs.Made.{IsPlace}
use Rattle.kc_state.specs.AbsEvents.{HasStack, IsStackOf}
use Rattle.kc_state.specs.Location.{location_of}
use Rattle.kc_state.specs.Places.{location_stack, is_interrupted_rsp, value_stack}
use Rattle.kc_state.specs.declared.key.Key.{Key}
use Rattle.kc_state.specs.declared.location.Location.{Location}
use Rattle.kc_state.specs.declared.location.Location.TheVariants.{Number, Relative}

-- ---- gates

pick : (P : Gate → Type 0) (b : Bool) (g h : Gate) (rest : Option Gate) → P g → (rest ≡ Some h → P h)
    → cond b (Some g) rest ≡ Some h → P h
pick P true g h rest p others e = let same : g ≡ h = cc (e) in subst P same p
pick P false g h rest p others e = others e

found_has : (P : Gate → Type 0) (test : Gate → Bool) (gs : List Gate) (h : Gate) → All P gs → find test gs ≡ Some h
    → P h
found_has P test [] h all e = absurd (let k : ◌≡◌ {A = Option Gate} None (Some h) = e in cc)
found_has P test (g ∷ gs) h all e =
    pick P (test g) g h (find test gs) (all 0 g (omega arith))
    (found_has P test gs h (λ k d lt. all (suc k) d (omega arith))) e

pub ist_range : (d : Description) (v : ℕ) (g : Gate) → IsValid d → gate_of d.gates v ≡ Some g → g.ist ≤ 7
ist_range d v g valid found = (found_has IsGateInRange _ d.gates g valid.ranges.gates found).ist

-- ---- stacks

filled_at : (d : Description) (s : ℕ) (o : Option Region) → IsValid d → stack_at d.regions s ≡ o
    → IfSome o (λ r. r.span.from < r.span.to)
filled_at d s (Some r) valid e = ((laid d valid).stacks s r e).filled
filled_at d s None valid e = tt

pub filled : (d : Description) (s : ℕ) (o : Option Region) → IsValid d → o ≡ stack_at d.regions s
    → IfSome o (λ r. r.span.from < r.span.to)
filled d s o valid e = filled_at d s o valid (sym e)

stack_among : (d : Description) (a s : ℕ) → stack_of d.regions a ≡ Some s → s < length (stacks_of d.regions)
stack_among d a s e =
    let at = position_or_len (λ r. holds r.span a) (stacks_of d.regions) in
    elim (chosen (nat_lt at (length (stacks_of d.regions))) (Some at) None (Some s) e) [
      | inl h ↦
          let below = ltb-true at (length (stacks_of d.regions)) h.0 in
          let same : at ≡ s = cc in
          omega (arith, below, same)
      | inr h ↦ absurd cc
    ]

among : (d : Description) (a : ℕ) (o : Option ℕ) → stack_of d.regions a ≡ o → IsStackOf d o
among d a (Some s) e = stack_among d a s e
among d a None e = tt

location_among : (d : Description) (key : Key) (l : Option Location) → HasStack d key
    → IsStackOf d (location_stack d key l)
location_among d key (Some (Relative k)) h = h
location_among d key (Some (Number a)) h = among d a (stack_of d.regions a) refl
location_among d key None h = tt

choice_among : (d : Description) (b : Bool) (x y : Option ℕ) → IsStackOf d x → IsStackOf d y
    → IsStackOf d (cond b x y)
choice_among d true x y hx hy = hx
choice_among d false x y hx hy = hy

-- the stack of a value is one of the description's
pub value_among : (d : Description) (key : Key) (v : AbsValue) → HasStack d key → IsStackOf d (value_stack d key v)
value_among d key v h =
    choice_among d (is_interrupted_rsp v.sym) key.stack (location_stack d key (location_of key v)) h
    (location_among d key (location_of key v) h)

place_among : (d : Description) (o : Option ℕ) → IsValid d → IsStackOf d o → IsPlace o
place_among d (Some s) valid h = omega (arith, (laid d valid).stack_count, h)
place_among d None valid h = tt

pub value_place : (d : Description) (key : Key) (v : AbsValue) → IsValid d → HasStack d key
    → IsPlace (value_stack d key v)
value_place d key v valid h = place_among d (value_stack d key v) valid (value_among d key v h)
