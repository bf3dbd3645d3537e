-- A word times 1, 2, 4 or 8: what is known of it stands for it. A product by a power of 2 is a block of bits above
-- another one, so the masks of known bits are those of the blocks (`and_block`).
use Rattle.std.proofs.Common.{◌≡◌, ℕ, ◌+◌, ◌-◌, ◌*◌, ◌%◌, ◌^◌, ◌<◌, ◌⊎◌, inl, inr, bit_and, refl, sym, ap, ◌∙◌, arith, zero-mul}
use Rattle.std.proofs.Math.Nat.{zero-mod}
use Rattle.std.proofs.lemmas.Nat.{and_block, and_mod}
use Rattle.kc_bits.specs.KnownBits.{KnownBits}
use Rattle.kc_bits.specs.Bits.{IsValid as AreBitsValid, StandsFor, word}
use Rattle.kc_bits.proofs.Masks.{stands_from_masks, masks_from_stands}
use Rattle.kc_state.specs.Operand.{scaled_bits}
use Rattle.kc_state.proofs.ScaleLemmas.{scaled_apart, scaled_fits}

-- s is a scale
abbrev pub IsScale : ℕ → Type 0
IsScale s = (s ≡ 1) ⊎ ((s ≡ 2) ⊎ ((s ≡ 4) ⊎ (s ≡ 8)))

-- the blocks of n and of a mask, with r below the mask's
block_and : (x n k m r : ℕ) → r < 2 ^ k → bit_and 0 r ≡ 0
    → bit_and (n % 2 ^ m * 2 ^ k + 0) (x % 2 ^ m * 2 ^ k + r) ≡ bit_and n x % 2 ^ m * 2 ^ k
block_and x n k m r fits low =
    let none : 0 < 2 ^ k = omega (arith, fits) in
    and_block k (n % 2 ^ m) (x % 2 ^ m) 0 r none fits
    ∙ (λ i. sym (and_mod n x m) i * 2 ^ k + low i) ∙ omega arith

record IsBlock (z o n : ℕ) (b : KnownBits) (x : ℕ) : Type 0 where
  power : ℕ
  width : ℕ
  below : ℕ
  fits : below < 2 ^ power
  low : bit_and 0 below ≡ 0
  none : bit_and 0 0 ≡ 0
  zeros : b.zeros ≡ z % 2 ^ width * 2 ^ power + below
  ones : b.ones ≡ o % 2 ^ width * 2 ^ power + 0
  value : x ≡ n % 2 ^ width * 2 ^ power + 0

block_stands : (z o n x : ℕ) (b : KnownBits) → bit_and n z ≡ 0 → bit_and n o ≡ o → IsBlock z o n b x → StandsFor b x
block_stands z o n x b apart within h =
    let k = h.power in
    let m = h.width in
    let zeros : bit_and x b.zeros ≡ 0 =
    (λ i. bit_and (h.value i) (h.zeros i)) ∙ block_and z n k m h.below h.fits h.low
    ∙ ap (λ y. y % 2 ^ m * 2 ^ k) apart ∙ ap (λ y. y * 2 ^ k) (zero-mod (2 ^ m)) ∙ zero-mul (2 ^ k) in
    let room : 0 < 2 ^ k = omega (arith, h.fits) in
    let ones : bit_and x b.ones ≡ b.ones =
    (λ i. bit_and (h.value i) (h.ones i)) ∙ block_and o n k m 0 room h.none
    ∙ ap (λ y. y % 2 ^ m * 2 ^ k) within ∙ omega (arith, h.ones) in
    stands_from_masks b x zeros ones

scaled_block : (b : KnownBits) (n s : ℕ) → IsScale s → IsBlock b.zeros b.ones n (scaled_bits b s) (word (n * s))
scaled_block b n s (inl e) = record {
  power = 0;
  width = 64;
  below = 0;
  fits = omega arith;
  low = refl;
  none = refl;
  zeros = omega (arith, ap (λ (v : ℕ). word (b.zeros * v) + (v - 1)) e);
  ones = omega (arith, ap (λ (v : ℕ). word (b.ones * v)) e);
  value = omega (arith, ap (λ (v : ℕ). word (n * v)) e);
}
scaled_block b n s (inr (inl e)) = record {
  power = 1;
  width = 63;
  below = 1;
  fits = omega arith;
  low = refl;
  none = refl;
  zeros = omega (arith, ap (λ (v : ℕ). word (b.zeros * v) + (v - 1)) e);
  ones = omega (arith, ap (λ (v : ℕ). word (b.ones * v)) e);
  value = omega (arith, ap (λ (v : ℕ). word (n * v)) e);
}
scaled_block b n s (inr (inr (inl e))) = record {
  power = 2;
  width = 62;
  below = 3;
  fits = omega arith;
  low = refl;
  none = refl;
  zeros = omega (arith, ap (λ (v : ℕ). word (b.zeros * v) + (v - 1)) e);
  ones = omega (arith, ap (λ (v : ℕ). word (b.ones * v)) e);
  value = omega (arith, ap (λ (v : ℕ). word (n * v)) e);
}
scaled_block b n s (inr (inr (inr e))) = record {
  power = 3;
  width = 61;
  below = 7;
  fits = omega arith;
  low = refl;
  none = refl;
  zeros = omega (arith, ap (λ (v : ℕ). word (b.zeros * v) + (v - 1)) e);
  ones = omega (arith, ap (λ (v : ℕ). word (b.ones * v)) e);
  value = omega (arith, ap (λ (v : ℕ). word (n * v)) e);
}

-- the bits of a word times a scale stand for the product
pub scaled_stand : (b : KnownBits) (n s : ℕ) → StandsFor b n → IsScale s → StandsFor (scaled_bits b s) (word (n * s))
scaled_stand b n s known scale =
    let masks = masks_from_stands b n known in
    block_stands b.zeros b.ones n (word (n * s)) (scaled_bits b s) masks.0 masks.1 (scaled_block b n s scale)

pub scaled_valid : (b : KnownBits) (s : ℕ) → AreBitsValid b → IsScale s → AreBitsValid (scaled_bits b s)
scaled_valid b s ok scale = record {
  zeros_fit = scaled_fits b.zeros s scale;
  ones_fit = omega arith;
  apart = scaled_apart b.zeros b.ones s ok.apart scale;
}
