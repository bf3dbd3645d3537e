-- The bits of a sign extension: by cases on bit 31, which is 32 ones above the number or none, and on whether the bit
-- that is asked for lies below bit 32.
use Rattle.std.proofs.Common.{◌≡◌, ℕ, ◌+◌, ◌-◌, ◌*◌, ◌^◌, ◌<◌, min, ◌==◌, arith, sym, ◌∙◌, inl, inr}
use Rattle.std.proofs.lemmas.Nat.Bits.{bit_at_cat_low, bit_at_cat_high, bit_at_ones, bit_at_above, bit_at-lt}
use Rattle.std.proofs.lemmas.Bool.{cases_lt, cases_Bool, eqb-true, eqb-false}
use Rattle.std.specs.Int.{bit_at}
use Rattle.kc_words.specs.Sign.{sign_extended}

-- a doubleword whose bit 31 is clear has nothing from there on
below_half : (v : ℕ) → v < 2 ^ 32 → bit_at v 31 ≡ 0 → v < 2 ^ 31
below_half v h e = omega arith

pub bit_at-sign_extended : (v i : ℕ) → v < 2 ^ 32 → i < 64 → bit_at (sign_extended v) i ≡ bit_at v (min i 31)
bit_at-sign_extended v i fits h =
    elim (cases_Bool (bit_at v 31 == 1)) [
      | inl set ↦
          let one : bit_at v 31 ≡ 1 = eqb-true (bit_at v 31) 1 set in
          let is : sign_extended v ≡ (2 ^ 32 - 1) * 2 ^ 32 + v = rw set (omega arith) in
          elim (cases_lt i 32) [
            | inl low ↦
                let place : min i 31 ≡ i = omega arith in
                rw (is, place) (bit_at_cat_low (2 ^ 32 - 1) 32 v i low)
            | inr high ↦
                let place : min i 31 ≡ 31 = omega arith in
                rw (is, place) (bit_at_cat_high (2 ^ 32 - 1) 32 v i fits high ∙ bit_at_ones 32 (i - 32) (omega arith)
                ∙ sym one)
          ]
      | inr clear ↦
          let zero_is : bit_at v 31 ≡ 0 = omega (arith, bit_at-lt v 31, eqb-false (bit_at v 31) 1 clear) in
          let is : sign_extended v ≡ v = rw clear in
          elim (cases_lt i 32) [
            | inl low ↦ let place : min i 31 ≡ i = omega arith in rw (is, place)
            | inr high ↦
                let place : min i 31 ≡ 31 = omega arith in
                rw (is, place) (bit_at_above v 31 i (below_half v fits zero_is) (omega arith) ∙ sym zero_is)
          ]
    ]
