-- No bit is in both masks of what is made here of known bits. A shift is a block of bits above another one
-- (`and_block`); the others are shown at each bit, where `omega` is left with numbers below 2.
use Rattle.std.proofs.Common.{◌≡◌, ℕ, ◌+◌, ◌-◌, ◌*◌, ◌/◌, ◌%◌, ◌^◌, ◌<◌, min, max, bit_and, bit_or, arith, refl, sym, ap, ◌∙◌, inl, inr, ◌⊎◌}
use Rattle.std.proofs.Math.Nat.{zero-mod, zero-mul}
use Rattle.std.proofs.lemmas.Nat.{and_block, and_mod, and_shr, and-not, or_comm}
use Rattle.std.proofs.lemmas.Nat.Bits.{same_from_bits, bit_at_and, bit_at_or, bit_at-lt, bit_at-zero}
use Rattle.std.specs.Int.{bit_at}
use Rattle.kc_bits.specs.KnownBits.{KnownBits}
use Rattle.kc_bits.specs.Bits.{flipped, word}
use Rattle.kc_bits.specs.BitsLaws.{and_self}
use Rattle.kc_regions.specs.declared.entry.AfterIf.{AfterIf}
use Rattle.kc_regions.specs.declared.entry.AfterIf.TheVariants.{Keep, On, Off, Any}
use Rattle.kc_state.specs.AbsEffect.{loaded_flags}
use Rattle.kc_state.specs.Calls.{left_flags}
use Rattle.kc_bits.proofs.Masks.{two}

-- ---- blocks of bits

-- a word times 2^k, with k ones below it, and another one
block_apart : (z o n k r : ℕ) → r < 2 ^ k → bit_and z o ≡ 0 → bit_and r 0 ≡ 0 → bit_and (z % 2 ^ n * 2 ^ k + r)
    (o % 2 ^ n * 2 ^ k) ≡ 0
block_apart z o n k r fits apart low =
    let none : 0 < 2 ^ k = omega (arith, fits) in
    let zero : o % 2 ^ n * 2 ^ k ≡ o % 2 ^ n * 2 ^ k + 0 = omega arith in
    let upper : bit_and (z % 2 ^ n) (o % 2 ^ n) ≡ 0 = sym (and_mod z o n) ∙ ap (λ (v : ℕ). v % 2 ^ n) apart
    ∙ zero-mod (2 ^ n) in
    ap (bit_and (z % 2 ^ n * 2 ^ k + r)) zero ∙ and_block k (z % 2 ^ n) (o % 2 ^ n) r 0 fits none
    ∙ ap (λ (v : ℕ). v * 2 ^ k + bit_and r 0) upper ∙ (λ i. zero-mul (2 ^ k) i + low i)

-- the masks of a word times 1, 2, 4 or 8
pub scaled_apart : (z o s : ℕ) → bit_and z o ≡ 0 → (s ≡ 1) ⊎ ((s ≡ 2) ⊎ ((s ≡ 4) ⊎ (s ≡ 8)))
    → bit_and (word (z * s) + (s - 1)) (word (o * s)) ≡ 0
scaled_apart z o s apart (inl e) =
    let zs : word (z * s) + (s - 1) ≡ z % 2 ^ 64 * 2 ^ 0 + 0 =
    omega (arith, ap (λ (v : ℕ). word (z * v) + (v - 1)) e) in
    let os : word (o * s) ≡ o % 2 ^ 64 * 2 ^ 0 = omega (arith, ap (λ (v : ℕ). word (o * v)) e) in
    (λ i. bit_and (zs i) (os i)) ∙ block_apart z o 64 0 0 (omega arith) apart refl
scaled_apart z o s apart (inr (inl e)) =
    let zs : word (z * s) + (s - 1) ≡ z % 2 ^ 63 * 2 ^ 1 + 1 =
    omega (arith, ap (λ (v : ℕ). word (z * v) + (v - 1)) e) in
    let os : word (o * s) ≡ o % 2 ^ 63 * 2 ^ 1 = omega (arith, ap (λ (v : ℕ). word (o * v)) e) in
    (λ i. bit_and (zs i) (os i)) ∙ block_apart z o 63 1 1 (omega arith) apart refl
scaled_apart z o s apart (inr (inr (inl e))) =
    let zs : word (z * s) + (s - 1) ≡ z % 2 ^ 62 * 2 ^ 2 + 3 =
    omega (arith, ap (λ (v : ℕ). word (z * v) + (v - 1)) e) in
    let os : word (o * s) ≡ o % 2 ^ 62 * 2 ^ 2 = omega (arith, ap (λ (v : ℕ). word (o * v)) e) in
    (λ i. bit_and (zs i) (os i)) ∙ block_apart z o 62 2 3 (omega arith) apart refl
scaled_apart z o s apart (inr (inr (inr e))) =
    let zs : word (z * s) + (s - 1) ≡ z % 2 ^ 61 * 2 ^ 3 + 7 =
    omega (arith, ap (λ (v : ℕ). word (z * v) + (v - 1)) e) in
    let os : word (o * s) ≡ o % 2 ^ 61 * 2 ^ 3 = omega (arith, ap (λ (v : ℕ). word (o * v)) e) in
    (λ i. bit_and (zs i) (os i)) ∙ block_apart z o 61 3 7 (omega arith) apart refl

-- the ones that are added fit
pub scaled_fits : (z s : ℕ) → (s ≡ 1) ⊎ ((s ≡ 2) ⊎ ((s ≡ 4) ⊎ (s ≡ 8))) → word (z * s) + (s - 1) < 2 ^ 64
scaled_fits z s (inl e) = omega (arith, ap (λ (v : ℕ). word (z * v) + (v - 1)) e)
scaled_fits z s (inr (inl e)) = omega (arith, ap (λ (v : ℕ). word (z * v) + (v - 1)) e)
scaled_fits z s (inr (inr (inl e))) = omega (arith, ap (λ (v : ℕ). word (z * v) + (v - 1)) e)
scaled_fits z s (inr (inr (inr e))) = omega (arith, ap (λ (v : ℕ). word (z * v) + (v - 1)) e)

-- the upper half as a number, with ones in the zeros above it
pub upper_apart : (z o : ℕ) → bit_and z o ≡ 0 → o < 2 ^ 64 → z < 2 ^ 64 → bit_and (z / 2 ^ 32 + (2 ^ 64 - 2 ^ 32))
    (o / 2 ^ 32) ≡ 0
upper_apart z o apart o_fits z_fits =
    let zs : z / 2 ^ 32 + (2 ^ 64 - 2 ^ 32) ≡ (2 ^ 32 - 1) * 2 ^ 32 + z / 2 ^ 32 = omega arith in
    let os : o / 2 ^ 32 ≡ 0 * 2 ^ 32 + o / 2 ^ 32 = omega arith in
    let z_low : z / 2 ^ 32 < 2 ^ 32 = omega (arith, z_fits) in
    let o_low : o / 2 ^ 32 < 2 ^ 32 = omega (arith, o_fits) in
    let low : bit_and (z / 2 ^ 32) (o / 2 ^ 32) ≡ 0 = sym (and_shr z o 32) ∙ ap (λ (v : ℕ). v / 2 ^ 32) apart in
    (λ i. bit_and (zs i) (os i)) ∙ and_block 32 (2 ^ 32 - 1) 0 (z / 2 ^ 32) (o / 2 ^ 32) z_low o_low
    ∙ ap (λ (v : ℕ). bit_and (2 ^ 32 - 1) 0 * 2 ^ 32 + v) low

-- one low half above another one
pub halves_apart : (z o y p : ℕ) → bit_and z o ≡ 0 → bit_and y p ≡ 0
    → bit_and (z % 2 ^ 32 * 2 ^ 32 + y % 2 ^ 32) (o % 2 ^ 32 * 2 ^ 32 + p % 2 ^ 32) ≡ 0
halves_apart z o y p high low =
    let y_fits : y % 2 ^ 32 < 2 ^ 32 = omega arith in
    let p_fits : p % 2 ^ 32 < 2 ^ 32 = omega arith in
    let upper : bit_and (z % 2 ^ 32) (o % 2 ^ 32) ≡ 0 = sym (and_mod z o 32) ∙ ap (λ (v : ℕ). v % 2 ^ 32) high in
    let lower : bit_and (y % 2 ^ 32) (p % 2 ^ 32) ≡ 0 = sym (and_mod y p 32) ∙ ap (λ (v : ℕ). v % 2 ^ 32) low in
    and_block 32 (z % 2 ^ 32) (o % 2 ^ 32) (y % 2 ^ 32) (p % 2 ^ 32) y_fits p_fits ∙ (λ i. upper i * 2 ^ 32 + lower i)

-- ---- bit by bit

-- masks that share no bit share none at i
apart_at : (x y i : ℕ) → bit_and x y ≡ 0 → min (bit_at x i) (bit_at y i) ≡ 0
apart_at x y i e = sym (bit_at_and x y i) ∙ ap (λ (v : ℕ). bit_at v i) e ∙ bit_at-zero i

-- a mask within another one is within it at i
within_at : (x y i : ℕ) → bit_and x y ≡ y → min (bit_at x i) (bit_at y i) ≡ bit_at y i
within_at x y i e = sym (bit_at_and x y i) ∙ ap (λ (v : ℕ). bit_at v i) e

-- a bit of (x and m) or y
kept_or : (x m y i : ℕ) → bit_at (bit_or (bit_and x m) y) i ≡ max (min (bit_at x i) (bit_at m i)) (bit_at y i)
kept_or x m y i = bit_at_or (bit_and x m) y i ∙ ap (λ (v : ℕ). max v (bit_at y i)) (bit_at_and x m i)

flipped_apart : (f : ℕ) → f < 2 ^ 64 → bit_and (flipped f) f ≡ 0
flipped_apart f h =
    let sum : bit_and (2 ^ 64 - 1 - f) f + bit_and f f ≡ f = and-not 64 f f h h in
    let same : bit_and f f ≡ f = and_self f in
    omega (arith, sum, same)

-- flags that were forgotten, and then those that are known again
pub marked_apart : (z o f ones zeros : ℕ) → f < 2 ^ 64 → bit_and z o ≡ 0 → bit_and ones zeros ≡ 0
    → bit_and f (bit_or ones zeros) ≡ bit_or ones zeros
    → bit_and (bit_or (bit_and z (flipped f)) zeros) (bit_or (bit_and o (flipped f)) ones) ≡ 0
marked_apart z o f ones zeros fits apart known within =
    let left = bit_or (bit_and z (flipped f)) zeros in
    let right = bit_or (bit_and o (flipped f)) ones in
    same_from_bits (bit_and left right) 0 (λ i.
    let made : bit_at (bit_and left right) i ≡ min (max (min (bit_at z i) (bit_at (flipped f) i)) (bit_at zeros i))
    (max (min (bit_at o i) (bit_at (flipped f) i)) (bit_at ones i)) =
    bit_at_and left right i ∙ (λ j. min (kept_or z (flipped f) zeros i j) (kept_or o (flipped f) ones i j)) in
    let old = apart_at z o i apart in
    let new = apart_at ones zeros i known in
    let either = within_at f (bit_or ones zeros) i within in
    let both = bit_at_or ones zeros i in
    let rest = apart_at (flipped f) f i (flipped_apart f fits) in
    let zero = bit_at-zero i in
    elim (two (bit_at f i) (bit_at-lt f i)) [
      | inl e ↦ omega (arith, made, old, either, both, e, zero)
      | inr e ↦ omega (arith, made, new, rest, e, zero)
    ])

-- bits of a word in a mask, and those of two more masks: none is shared where no two of these share one
kept_apart : (z o m x y : ℕ) → bit_and z o ≡ 0 → bit_and m x ≡ 0 → bit_and m y ≡ 0 → bit_and x y ≡ 0
    → bit_and (bit_or (bit_and z m) x) (bit_or (bit_and o m) y) ≡ 0
kept_apart z o m x y apart mx my xy =
    let left = bit_or (bit_and z m) x in
    let right = bit_or (bit_and o m) y in
    same_from_bits (bit_and left right) 0 (λ i.
    let made : bit_at (bit_and left right) i ≡ min (max (min (bit_at z i) (bit_at m i)) (bit_at x i))
    (max (min (bit_at o i) (bit_at m i)) (bit_at y i)) =
    bit_at_and left right i ∙ (λ j. min (kept_or z m x i j) (kept_or o m y i j)) in
    let old = apart_at z o i apart in
    let first = apart_at m x i mx in
    let second = apart_at m y i my in
    let third = apart_at x y i xy in
    let zero = bit_at-zero i in
    elim (two (bit_at m i) (bit_at-lt m i)) [
      | inl e ↦ omega (arith, made, third, e, zero)
      | inr e ↦ omega (arith, made, old, first, second, e, zero)
    ])

-- RFLAGS as POPFQ loads it
pub loaded_apart : (b : KnownBits) → bit_and b.zeros b.ones ≡ 0 → bit_and (loaded_flags b).zeros (loaded_flags b).ones
    ≡ 0
loaded_apart b apart = kept_apart b.zeros b.ones 0x240FD5 (flipped 0x240FD7) 2 apart refl refl refl

-- IF as it was, beside two masks that don't have it
if_apart : (z o : ℕ) → bit_and z o ≡ 0 → bit_and (bit_or (bit_or (flipped 0x240FD7) 0x400) (bit_and z 0x200))
    (bit_or 2 (bit_and o 0x200)) ≡ 0
if_apart z o apart =
    let x = bit_or (flipped 0x240FD7) 0x400 in
    let left = or_comm x (bit_and z 0x200) in
    let right = or_comm 2 (bit_and o 0x200) in
    (λ i. bit_and (left i) (right i)) ∙ kept_apart z o 0x200 x 2 apart refl refl refl

-- RFLAGS after the end of a handler
pub left_apart : (b : KnownBits) (after_if : AfterIf) → bit_and b.zeros b.ones ≡ 0
    → bit_and (left_flags b after_if).zeros (left_flags b after_if).ones ≡ 0
left_apart b Keep apart = if_apart b.zeros b.ones apart
left_apart b On apart = refl
left_apart b Off apart = refl
left_apart b Any apart = refl

-- of two words the bits in a mask
pub masked_apart : (z o m : ℕ) → bit_and z o ≡ 0 → bit_and (bit_and z m) (bit_and o m) ≡ 0
masked_apart z o m apart =
    let x = bit_and z m in
    let y = bit_and o m in
    same_from_bits (bit_and x y) 0 (λ i. omega (
      arith,
      bit_at_and x y i,
      bit_at_and z m i,
      bit_at_and o m i,
      apart_at z o i apart,
      bit_at-zero i,
    ))

-- of a number in a mask and of its complement there
pub parts_apart : (n m : ℕ) → n < 2 ^ 64 → bit_and (bit_and n m) (bit_and (flipped n) m) ≡ 0
parts_apart n m fits =
    let x = bit_and n m in
    let y = bit_and (flipped n) m in
    same_from_bits (bit_and x y) 0 (λ i.
    omega (
      arith,
      bit_at_and x y i,
      bit_at_and n m i,
      bit_at_and (flipped n) m i,
      apart_at (flipped n) n i (flipped_apart n fits),
      bit_at-zero i,
    ))

-- both lie in a mask that has this one in it
pub parts_within : (n m f : ℕ) → bit_and f m ≡ m → bit_and f (bit_or (bit_and n m) (bit_and (flipped n) m))
    ≡ bit_or (bit_and n m) (bit_and (flipped n) m)
parts_within n m f within =
    let x = bit_and n m in
    let y = bit_and (flipped n) m in
    let all = bit_or x y in
    same_from_bits (bit_and f all) all (λ i.
    omega (
      arith,
      bit_at_and f all i,
      bit_at_or x y i,
      bit_at_and n m i,
      bit_at_and (flipped n) m i,
      within_at f m i within,
      bit_at-lt f i,
      bit_at-lt m i,
    ))
