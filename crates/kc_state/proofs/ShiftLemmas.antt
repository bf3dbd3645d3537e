-- A move by 2^63, which is no signed number of 64 bits, and the sign of a number turned round.
use Rattle.std.proofs.Common.{◌≡◌, ◌≢◌, ◌^◌, ◌<◌, Bool, true, cond, ℤ, pos, negsuc, ◌+ℤ◌, ◌-ℤ◌, neg_ℤ, ap, ◌∙◌, rules, arith}
use Rattle.std.proofs.lemmas.Int.{ints, to_z-of_z}
use Rattle.std.specs.Prelude.{FitsSigned}
use mir.Val.{of_z, to_z}
use mir.Syntax.{w64}
use Rattle.kc_regions.specs.Description.{Description}
use Rattle.kc_value.specs.AbsValue.{AbsValue}
use Rattle.kc_value.specs.declared.symbol.Sym.TheVariants.{Base}
use Rattle.kc_state.specs.Shift.{is_offset, shifted_places, based, moved_bits, shifted_from, shifted}
use Rattle.kc_state.specs.declared.key.Key.{Key}

-- the least signed number of 64 bits
abbrev pub least : ℤ
least = neg_ℤ (pos (2 ^ 63))

offset_fits : (z : ℤ) → FitsSigned w64 z → is_offset z ≡ true
offset_fits (pos n) h = let fits : n < 2 ^ 63 = omega (arith, ints, h) in search (rules, fits)
offset_fits (negsuc n) h = let fits : n < 2 ^ 63 = omega (arith, ints, h) in search (rules, fits)

pub half_shifted : (d : Description) (key : Key) (v : AbsValue) (k : ℤ) → v.sym ≡ Base k → FitsSigned w64 (k -ℤ least) →
    shifted d key v (pos (2 ^ 63)) ≡ based (k -ℤ least) (shifted_places key v.stacks (pos (2 ^ 63)) (k -ℤ least))
half_shifted d key v k is fits =
    let c : ℤ = pos (2 ^ 63) in
    let same : (k +ℤ c) ≡ (k -ℤ least) = omega (arith, ints) in
    ap (shifted_from d key v c) is
    ∙ ap (λ (z : ℤ). cond (is_offset z) (based z (shifted_places key v.stacks c z)) (moved_bits d v c)) same
    ∙ ap (λ (t : Bool). cond t (based (k -ℤ least) (shifted_places key v.stacks c (k -ℤ least))) (moved_bits d v c))
    (offset_fits (k -ℤ least) fits)

pub minus_is : (c : ℤ) → FitsSigned w64 c → c ≢ least → to_z w64 (of_z w64 (pos 0 -ℤ to_z w64 (of_z w64 c))) ≡ neg_ℤ c
minus_is c fits other =
    let inner : to_z w64 (of_z w64 c) ≡ c = to_z-of_z w64 c fits in
    let small : FitsSigned w64 (pos 0 -ℤ c) = omega (arith, ints, fits, other) in
    let minus : (pos 0 -ℤ c) ≡ neg_ℤ c = omega (arith, ints) in
    ap (λ (z : ℤ). to_z w64 (of_z w64 (pos 0 -ℤ z))) inner ∙ to_z-of_z w64 (pos 0 -ℤ c) small ∙ minus
