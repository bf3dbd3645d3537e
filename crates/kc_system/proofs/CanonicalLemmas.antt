-- What is canonical: bits 47 to 63 of a word that are known alike make its upper part all zeros or all ones. And the bits
-- that are known of a user's GS base. By single bits.
use Rattle.std.proofs.Common.{◌≡◌, ℕ, ◌+◌, ◌-◌, ◌/◌, ◌%◌, ◌^◌, ◌<◌, ◌==◌, true, bit_and, refl, sym, ap, ◌∙◌, inl, inr, arith}
use Rattle.std.specs.Int.{bit_at}
use Rattle.std.proofs.lemmas.Bool.{cases_lt, eqb-true, lt-ltb, le-leb, or_cases, or_left, or_right}
use Rattle.std.proofs.lemmas.Nat.{shr-shr}
use Rattle.std.proofs.lemmas.Nat.Bits.{bit_at-lt, bit_at-zero, bit_at_and, bit_at_ones, bit_at_above, bit_at_cat_low, bit_at_cat_high, same_from_bits_below}
use Rattle.kc_bits.specs.KnownBits.{KnownBits}
use Rattle.kc_bits.specs.Bits.{IsValid as AreBitsValid, StandsFor}
use Rattle.kc_state.specs.Conditions as known
use Rattle.kc_exec.specs.Breaks.{is_canonical}

-- bits 47 to 63
abbrev pub upper_mask : ℕ
upper_mask = 2 ^ 64 - 2 ^ 47

upper_bit : (i : ℕ) → i < 17 → bit_at upper_mask (47 + i) ≡ 1
upper_bit i few =
    let high = bit_at_cat_high (2 ^ 17 - 1) 47 0 (47 + i) (omega arith) (omega arith) in
    let there : 47 + i - 47 ≡ i = omega arith in
    high ∙ ap (bit_at (2 ^ 17 - 1)) there ∙ bit_at_ones 17 i few

lower_bit : (i : ℕ) → i < 47 → bit_at upper_mask i ≡ 0
lower_bit i few = bit_at_cat_low (2 ^ 17 - 1) 47 0 i few ∙ bit_at-zero i

-- a mask with the upper bits has each of them
has_upper : (mask i : ℕ) → bit_and mask upper_mask ≡ upper_mask → i < 17 → bit_at mask (47 + i) ≡ 1
has_upper mask i e few =
    let both : bit_at (bit_and mask upper_mask) (47 + i) ≡ bit_at upper_mask (47 + i) =
    ap (λ v. bit_at v (47 + i)) e in
    omega (arith, both, bit_at_and mask upper_mask (47 + i), upper_bit i few, bit_at-lt mask (47 + i))

shifted_bit : (n i : ℕ) → bit_at (n / 2 ^ 47) i ≡ bit_at n (47 + i)
shifted_bit n i = ap (λ v. v % 2) (shr-shr n 47 i)

pub low_canonical : (n : ℕ) → n < 2 ^ 47 → is_canonical n ≡ true
low_canonical n low = or_left _ _ (lt-ltb n (2 ^ 47) low)

-- bits that are known alike are those of a canonical number
pub canonical_by_bits : (b : KnownBits) (n : ℕ) → n < 2 ^ 64 → StandsFor b n → known.is_canonical b ≡ true
    → is_canonical n ≡ true
canonical_by_bits b n fits stands e =
    elim (or_cases (bit_and b.zeros upper_mask == upper_mask) (bit_and b.ones upper_mask == upper_mask) e) [
      | inl zeros ↦
          let none : n / 2 ^ 47 ≡ 0 =
          same_from_bits_below 17 (n / 2 ^ 47) 0 (omega (arith, fits)) (omega arith) (λ i few. shifted_bit n i
          ∙ (stands (47 + i)).0 (has_upper b.zeros i (eqb-true _ _ zeros) few) ∙ sym (bit_at-zero i)) in
          low_canonical n (omega (arith, none))
      | inr ones ↦
          let all : n / 2 ^ 47 ≡ 2 ^ 17 - 1 =
          same_from_bits_below 17 (n / 2 ^ 47) (2 ^ 17 - 1) (omega (arith, fits)) (omega arith)
          (λ i few. shifted_bit n i ∙ (stands (47 + i)).1 (has_upper b.ones i (eqb-true _ _ ones) few)
          ∙ sym (bit_at_ones 17 i few)) in
          or_right _ _ (le-leb (2 ^ 64 - 2 ^ 47) n (omega (arith, all)))
    ]

-- a number below 2^47 has 0 in the upper bits
pub low_stands : (n : ℕ) → n < 2 ^ 47 → StandsFor (record { zeros = upper_mask; ones = 0 }) n
low_stands n low = λ i. (
  λ e. elim (cases_lt i 47) [
    | inl few ↦ absurd (omega (arith, e, lower_bit i few))
    | inr more ↦ bit_at_above n 47 i low more
  ],
  λ e. absurd (omega (arith, e, bit_at-zero i)),
)

pub low_valid : AreBitsValid (record { zeros = upper_mask; ones = 0 })
low_valid = record { zeros_fit = omega arith; ones_fit = omega arith; apart = refl }
