-- What is made of numbers and bits stands for what it should, and is monotone.
-- A made value has no symbol, so what it stands for is the bits' part and the place's part. The bits' part is kc_bits'
-- own law; the place's part goes by cases on where the number lies. Monotone: by the same parts, through value_below.
use Rattle.std.proofs.Common.{◌≡◌, ℕ, ◌%◌, ◌^◌, ◌<◌, ◌≤◌, Bool, true, cond, Option, Some, None, bit_and, refl, sym, ap, ◌∙◌, subst, inl, inr, ◌⊎◌, arith}
use Rattle.std.proofs.lemmas.Bool.{cases_eq, eq-eqb, ne_eqb}
use Rattle.std.proofs.lemmas.Nat.{pow_below}
use Rattle.std.proofs.lemmas.Nat.Bits.{bit_at-pow_same, bit_at_ones}
use Rattle.kc_bits.specs.KnownBits.{KnownBits}
use Rattle.kc_bits.specs.Bits.{IsValid, StandsFor, is_below, all_of, unknown, bits_cut}
use Rattle.kc_bits.specs.BitsLaws.{bits_laws, below_facts, same_bits, and_self}
use Rattle.kc_words.specs.declared.width.Width.TheVariants.{Long}
use Rattle.kc_bits.proofs.Cut.{cut_apart, cut_sound, cut_monotone}
use Rattle.kc_bits.proofs.Masks.{ones-unknown}
use Rattle.kc_bits.proofs.Whole.{all_stands, known_only}
use Rattle.std.proofs.lemmas.Nat.{and_le_l}
use Rattle.kc_value.specs.AbsValue.{AbsValue}
use Rattle.kc_value.specs.Place.{HasPlace, place_bit}
use Rattle.kc_value.specs.Value.{Represents, all_places, value_below}
use Rattle.kc_value.specs.ValueLaws.{value_facts, value_from, has_all}
use Rattle.kc_value.specs.SymbolLaws.{below_same}
use Rattle.kc_value.specs.Made.{IsPlace, constant, of_bits, derived, derived_from, low}
use Rattle.kc_value.specs.declared.env.ValueEnv.{ValueEnv}

pub constant_stands : (n : ℕ) (place : Option ℕ) (env : ValueEnv) → n < 2 ^ 64 → HasPlace env.stacks place n
    → Represents (constant n place) env n
constant_stands n place env h at =
    record { symbol = tt; bits = all_stands n h; place = (place, at, bit_at-pow_same (place_bit place)) }

bit_of_place : (place : Option ℕ) → IsPlace place → place_bit place < 17
bit_of_place (Some s) h = omega arith
bit_of_place None h = omega arith

has_place : (place : Option ℕ) (env : ValueEnv) (n : ℕ) → HasPlace env.stacks place n → IsPlace place
has_place (Some s) env n h = h.0
has_place None env n h = tt

of_bits_stands : (b : KnownBits) (place : Option ℕ) (env : ValueEnv) (n : ℕ) → StandsFor b n
    → HasPlace env.stacks place n → Represents (of_bits b) env n
of_bits_stands b place env n s at = record {
  symbol = tt;
  bits = s;
  place = (place, at, bit_at_ones 17 (place_bit place) (bit_of_place place (has_place place env n at)));
}

-- all bits are known, and derived is the constant; or some is open, and it is the bits
derived_cases : (place : ℕ → Option ℕ) (b : KnownBits) →
    ((unknown b ≡ 0) × (derived place b ≡ constant b.ones (place b.ones)))
    ⊎ ((unknown b ≡ 0 → ⊥) × (derived place b ≡ of_bits b))
derived_cases place b = elim (cases_eq (unknown b) 0) [
  | inl e ↦ inl (e, ap (λ (t : Bool). derived_from place b (cond t (Some b.ones) None)) (eq-eqb (unknown b) 0 e))
  | inr e ↦ inr (e, ap (λ (t : Bool). derived_from place b (cond t (Some b.ones) None)) (ne_eqb (unknown b) 0 e))
]

pub derived_stands : (place : ℕ → Option ℕ) (b : KnownBits) (env : ValueEnv) (n : ℕ) →
    IsValid b → n < 2 ^ 64 → StandsFor b n → HasPlace env.stacks (place n) n → Represents (derived place b) env n
derived_stands place b env n h fits s at = elim (derived_cases place b) [
  | inl p ↦
      let one : n ≡ b.ones = known_only b n h fits p.0 s in
      let whole : Represents (constant n (place n)) env n = constant_stands n (place n) env fits at in
      let there = subst (λ (m : ℕ). Represents (constant m (place m)) env n) one whole in
      subst (λ (v : AbsValue). Represents v env n) (sym p.1) there
  | inr p ↦ subst (λ (v : AbsValue). Represents v env n) (sym p.1) (of_bits_stands b (place n) env n s at)
]

-- with no bit open, the ones are all of it
whole_is : (b : KnownBits) → IsValid b → unknown b ≡ 0 → all_of b.ones ≡ b
whole_is b h e =
    let sum = ones-unknown b h in
    let fits : b.zeros < 2 ^ 64 = h.zeros_fit in
    same_bits (all_of b.ones) b (omega (arith, sum, e, fits)) refl

-- below a word there is that word alone
below_whole : (a b : KnownBits) → IsValid a → IsValid b → is_below a b ≡ true → unknown b ≡ 0 → a ≡ b
below_whole a b ha hb below e =
    let p = below_facts a b below in
    let zeros : bit_and a.zeros b.zeros ≤ a.zeros = and_le_l a.zeros b.zeros in
    let ones : bit_and a.ones b.ones ≤ a.ones = and_le_l a.ones b.ones in
    let full_b = ones-unknown b hb in
    let full_a = ones-unknown a ha in
    let fits_a : a.zeros < 2 ^ 64 = ha.zeros_fit in
    let fits_b : b.zeros < 2 ^ 64 = hb.zeros_fit in
    same_bits a b (omega (arith, p.zeros, p.ones, zeros, ones, full_a, full_b, e, fits_a, fits_b))
    (omega (arith, p.zeros, p.ones, zeros, ones, full_a, full_b, e, fits_a, fits_b))

value_refl : (v w : AbsValue) → IsValid w.bits → v ≡ w → value_below v w ≡ true
value_refl v w h e = ap (λ (u : AbsValue). value_below u w) e
    ∙ value_from w w (below_same w.sym w.sym refl) (bits_laws.below_refl w.bits h) (and_self w.stacks)

pub derived_grows : (place : ℕ → Option ℕ) (a b : KnownBits) → ((n : ℕ) → IsPlace (place n)) → IsValid a → IsValid b
    → is_below a b ≡ true →
    value_below (derived place a) (derived place b) ≡ true
derived_grows place a b places ha hb below = elim (derived_cases place b) [
  | inl q ↦
      let same : a ≡ b = below_whole a b ha hb below q.0 in
      let valid : IsValid (derived place b).bits =
      subst (λ (v : AbsValue). IsValid v.bits) (sym q.1) (subst IsValid (sym (whole_is b hb q.0)) hb) in
      value_refl (derived place a) (derived place b) valid (ap (derived place) same)
  | inr q ↦
      let goal : AbsValue → Bool = λ v. value_below v (of_bits b) in
      let made : goal (derived place a) ≡ true =
      elim (derived_cases place a) [
        | inl p ↦
            ap goal p.1
            ∙ value_from (constant a.ones (place a.ones)) (of_bits b) refl
            (ap (λ (c : KnownBits). is_below c b) (whole_is a ha p.0) ∙ below)
            (has_all (2 ^ place_bit (place a.ones)) (pow_below (place_bit (place a.ones)) 17
            (bit_of_place (place a.ones) (places a.ones))))
        | inr p ↦ ap goal p.1 ∙ value_from (of_bits a) (of_bits b) refl below (and_self all_places)
      ] in
      ap (value_below (derived place a)) q.1 ∙ made
]

-- the low 32 bits of what is known
low_valid : (b : KnownBits) → IsValid b → IsValid (bits_cut 32 b)
low_valid b h = record { zeros_fit = omega arith; ones_fit = omega arith; apart = cut_apart Long b h }

pub low_stands : (place : ℕ → Option ℕ) (v : AbsValue) (env : ValueEnv) (n : ℕ) →
    IsValid v.bits → Represents v env n → HasPlace env.stacks (place (n % 2 ^ 32)) (n % 2 ^ 32)
    → Represents (low place v) env (n % 2 ^ 32)
low_stands place v env n h r at =
    derived_stands place (bits_cut 32 v.bits) env (n % 2 ^ 32) (low_valid v.bits h) (omega arith)
    (cut_sound Long v.bits n r.bits) at

pub low_grows : (place : ℕ → Option ℕ) (v w : AbsValue) → ((n : ℕ) → IsPlace (place n)) → IsValid v.bits
    → IsValid w.bits → value_below v w ≡ true →
    value_below (low place v) (low place w) ≡ true
low_grows place v w places hv hw below =
    derived_grows place (bits_cut 32 v.bits) (bits_cut 32 w.bits) places (low_valid v.bits hv) (low_valid w.bits hw)
    (cut_monotone Long v.bits w.bits (value_facts v w below).bits_below)
