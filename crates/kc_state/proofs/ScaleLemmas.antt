-- The four scales of an index, and a word times one of them: no bit is in both masks of what is known of it. A shift is
-- a block of bits above another one (`and_block`).
use Rattle.std.proofs.Common.{◌≡◌, ℕ, ◌+◌, ◌-◌, ◌*◌, ◌%◌, ◌^◌, ◌<◌, Bool, true, false, ◌||◌, ◌==◌, ◌⊎◌, inl, inr, refl, sym, ap, ◌∙◌, bit_and, arith, zero-mul}
use Rattle.std.proofs.Math.Nat.{zero-mod}
use Rattle.std.proofs.lemmas.Nat.{and_block, and_mod}
use Rattle.kc_bits.specs.Bits.{word}
use Rattle.std.proofs.lemmas.Bool.{eqb-true}
use Rattle.kc_state.specs.Scaled.{is_scale}

either : (x y : Bool) → (x || y) ≡ true → (x ≡ true) ⊎ (y ≡ true)
either true y e = inl refl
either false y e = inr e

pub scales : (s : ℕ) → is_scale s ≡ true → (s ≡ 1) ⊎ ((s ≡ 2) ⊎ ((s ≡ 4) ⊎ (s ≡ 8)))
scales s e = elim (either (s == 1) ((s == 2) || ((s == 4) || (s == 8))) e) [
  | inl h ↦ inl (eqb-true s 1 h)
  | inr h ↦ elim (either (s == 2) ((s == 4) || (s == 8)) h) [
    | inl k ↦ inr (inl (eqb-true s 2 k))
    | inr k ↦ elim (either (s == 4) (s == 8) k) [
      | inl l ↦ inr (inr (inl (eqb-true s 4 l)))
      | inr l ↦ inr (inr (inr (eqb-true s 8 l)))
    ]
  ]
]

-- a word times 2^k, with k ones below it, and another one
block_apart : (z o n k r : ℕ) → r < 2 ^ k → bit_and z o ≡ 0 → bit_and r 0 ≡ 0 → bit_and (z % 2 ^ n * 2 ^ k + r)
    (o % 2 ^ n * 2 ^ k) ≡ 0
block_apart z o n k r fits apart low =
    let none : 0 < 2 ^ k = omega (arith, fits) in
    let zero : o % 2 ^ n * 2 ^ k ≡ o % 2 ^ n * 2 ^ k + 0 = omega arith in
    let upper : bit_and (z % 2 ^ n) (o % 2 ^ n) ≡ 0 = sym (and_mod z o n) ∙ ap (λ (v : ℕ). v % 2 ^ n) apart
    ∙ zero-mod (2 ^ n) in
    ap (bit_and (z % 2 ^ n * 2 ^ k + r)) zero ∙ and_block k (z % 2 ^ n) (o % 2 ^ n) r 0 fits none
    ∙ ap (λ (v : ℕ). v * 2 ^ k + bit_and r 0) upper ∙ (λ i. zero-mul (2 ^ k) i + low i)

-- the masks of a word times 1, 2, 4 or 8
pub scaled_apart : (z o s : ℕ) → bit_and z o ≡ 0 → (s ≡ 1) ⊎ ((s ≡ 2) ⊎ ((s ≡ 4) ⊎ (s ≡ 8)))
    → bit_and (word (z * s) + (s - 1)) (word (o * s)) ≡ 0
scaled_apart z o s apart (inl e) =
    let zs : word (z * s) + (s - 1) ≡ z % 2 ^ 64 * 2 ^ 0 + 0 =
    omega (arith, ap (λ (v : ℕ). word (z * v) + (v - 1)) e) in
    let os : word (o * s) ≡ o % 2 ^ 64 * 2 ^ 0 = omega (arith, ap (λ (v : ℕ). word (o * v)) e) in
    (λ i. bit_and (zs i) (os i)) ∙ block_apart z o 64 0 0 (omega arith) apart refl
scaled_apart z o s apart (inr (inl e)) =
    let zs : word (z * s) + (s - 1) ≡ z % 2 ^ 63 * 2 ^ 1 + 1 =
    omega (arith, ap (λ (v : ℕ). word (z * v) + (v - 1)) e) in
    let os : word (o * s) ≡ o % 2 ^ 63 * 2 ^ 1 = omega (arith, ap (λ (v : ℕ). word (o * v)) e) in
    (λ i. bit_and (zs i) (os i)) ∙ block_apart z o 63 1 1 (omega arith) apart refl
scaled_apart z o s apart (inr (inr (inl e))) =
    let zs : word (z * s) + (s - 1) ≡ z % 2 ^ 62 * 2 ^ 2 + 3 =
    omega (arith, ap (λ (v : ℕ). word (z * v) + (v - 1)) e) in
    let os : word (o * s) ≡ o % 2 ^ 62 * 2 ^ 2 = omega (arith, ap (λ (v : ℕ). word (o * v)) e) in
    (λ i. bit_and (zs i) (os i)) ∙ block_apart z o 62 2 3 (omega arith) apart refl
scaled_apart z o s apart (inr (inr (inr e))) =
    let zs : word (z * s) + (s - 1) ≡ z % 2 ^ 61 * 2 ^ 3 + 7 =
    omega (arith, ap (λ (v : ℕ). word (z * v) + (v - 1)) e) in
    let os : word (o * s) ≡ o % 2 ^ 61 * 2 ^ 3 = omega (arith, ap (λ (v : ℕ). word (o * v)) e) in
    (λ i. bit_and (zs i) (os i)) ∙ block_apart z o 61 3 7 (omega arith) apart refl

-- the ones that are added fit
pub scaled_fits : (z s : ℕ) → (s ≡ 1) ⊎ ((s ≡ 2) ⊎ ((s ≡ 4) ⊎ (s ≡ 8))) → word (z * s) + (s - 1) < 2 ^ 64
scaled_fits z s (inl e) = omega (arith, ap (λ (v : ℕ). word (z * v) + (v - 1)) e)
scaled_fits z s (inr (inl e)) = omega (arith, ap (λ (v : ℕ). word (z * v) + (v - 1)) e)
scaled_fits z s (inr (inr (inl e))) = omega (arith, ap (λ (v : ℕ). word (z * v) + (v - 1)) e)
scaled_fits z s (inr (inr (inr e))) = omega (arith, ap (λ (v : ℕ). word (z * v) + (v - 1)) e)
