use Rattle.std.proofs.Common.{◌≡◌, ◌^◌, ℤ, pos, ◌-ℤ◌, refl, sym, ap, ◌∙◌, rules}
use Rattle.std.specs.Prelude.{FitsSigned}
use Rattle.std.proofs.lemmas.Int.{to_z-of_z}
use mir.Val.{of_z, to_z}
use mir.Syntax.{w64}
use Rattle.kc_value.specs.AbsValue.{AbsValue}
use Rattle.kc_state.specs.Shift.{shifted_places, based, shifted}
use Rattle.kc_state.proofs.ShiftLemmas.{least, half_shifted}
use Rattle.kc_state.proofs.shifts.shift_half.Goals as goal

-- less the least number is plus 2^63
pub returns-in-Some : goal.returns-in-Some
returns-in-Some c =
    let d = c.args.cfg.now in
    let key = c.args.key.now in
    let v : AbsValue = record { sym = c.v.inside.sym; bits = c.v.inside.bits; stacks = c.v.inside.stacks } in
    let k = c.in-Base.k in
    let half : ℤ = pos (2 ^ 63) in
    let fits : FitsSigned w64 (k -ℤ least) = search (rules, c.in-Some.ensures) in
    let sum : c.in-Some.sum ≡ (k -ℤ least) = search (rules, c.in-Some.ensures) in
    let z : ℤ = to_z w64 (of_z w64 c.in-Some.sum) in
    let read : z ≡ (k -ℤ least) = ap (λ (y : ℤ). to_z w64 (of_z w64 y)) sum ∙ to_z-of_z w64 (k -ℤ least) fits in
    let places : c.places.result ≡ shifted_places key v.stacks half z = c.places.ensures.value half refl in
    let made : c.based.result ≡ based z (shifted_places key v.stacks half z) = c.based.ensures ∙ ap (based z) places in
    made ∙ ap (λ (y : ℤ). based y (shifted_places key v.stacks half y)) read
    ∙ sym (half_shifted d key v k c.in-Base.is fits)
    ∙ ap (λ (w : AbsValue). shifted d key w half) c.v.view_is
