-- Masks of known bits: what each says of a word that it stands for.
-- A word has the known zeros and ones exactly where each of its bits has them; equations between words come from
-- equations between all their bits. The lemmas go from masks to bits and back, so that the rest can speak of bits.
use Rattle.std.proofs.Common.{◌≡◌, ℕ, ◌+◌, ◌-◌, ◌%◌, ◌^◌, ◌<◌, ◌≤◌, min, max, true, bit_and, bit_or, arith, sym, ap, ◌∙◌, inl, inr, ◌⊎◌}
use Rattle.std.proofs.lemmas.Bool.{cases_lt}
use Rattle.std.proofs.lemmas.Nat.{and_mod, and_le_l, or_disjoint, or_lt}
use Rattle.std.proofs.lemmas.Nat.Bits.{same_from_bits, bit_at_and, bit_at_or, bit_at_not, bit_at-lt, bit_at-zero, bit_at_above}
use Rattle.std.specs.Int.{bit_at, w64}
use Rattle.kc_bits.specs.KnownBits.{KnownBits}
use Rattle.kc_bits.specs.Bits.{IsValid, StandsFor, is_below, flipped, unknown, known_but}
use Rattle.kc_bits.specs.BitsLaws.{Has, has_bit, below_facts, below_from}

-- a bit is 0 or 1
pub two : (n : ℕ) → n < 2 → (n ≡ 0) ⊎ (n ≡ 1)
two n h = elim (cases_lt n 1) [ inl k ↦ inl (omega arith) | inr k ↦ inr (omega arith) ]

pub has_from_bits : (x y : ℕ) → ((i : ℕ) → bit_at y i ≡ 1 → bit_at x i ≡ 1) → Has x y
has_from_bits x y h =
    let least : (i : ℕ) → min (bit_at x i) (bit_at y i) ≡ bit_at y i =
    λ i. elim (two (bit_at y i) (bit_at-lt y i)) [ inl e ↦ omega (arith, e) | inr e ↦ omega (arith, e, h i e) ] in
    same_from_bits (bit_and x y) y (λ i. bit_at_and x y i ∙ least i)

pub bit_at-flipped : (n i : ℕ) → n < 2 ^ 64 → i < 64 → bit_at (flipped n) i ≡ 1 - bit_at n i
bit_at-flipped n i h k = bit_at_not w64 n i h k

pub low_of_part : (x y i : ℕ) → Has x y → y % 2 ^ i ≤ x % 2 ^ i
low_of_part x y i h =
    let cut : bit_and (x % 2 ^ i) (y % 2 ^ i) ≡ y % 2 ^ i = sym (and_mod x y i) ∙ ap (λ (v : ℕ). v % 2 ^ i) h in
    let le : bit_and (x % 2 ^ i) (y % 2 ^ i) ≤ x % 2 ^ i = and_le_l (x % 2 ^ i) (y % 2 ^ i) in
    omega (arith, cut, le)

-- no bit is known both ways
pub apart_bits : (b : KnownBits) → IsValid b → (i : ℕ) → min (bit_at b.zeros i) (bit_at b.ones i) ≡ 0
apart_bits b h i = sym (bit_at_and b.zeros b.ones i) ∙ ap (λ (v : ℕ). bit_at v i) h.apart ∙ bit_at-zero i

-- the greatest word that b stands for; the least is its ones
abbrev pub greatest : KnownBits → ℕ
greatest b = flipped b.zeros

pub mask_fits : (b : KnownBits) → IsValid b → bit_or b.zeros b.ones < 2 ^ 64
mask_fits b h = or_lt 64 b.zeros b.ones h.zeros_fit h.ones_fit

-- the unknown bits lead from the least word to the greatest
pub ones-unknown : (b : KnownBits) → IsValid b → b.ones + unknown b ≡ greatest b
ones-unknown b h =
    let sum : bit_or b.zeros b.ones ≡ b.zeros + b.ones = or_disjoint b.zeros b.ones h.apart in
    let fits : bit_or b.zeros b.ones < 2 ^ 64 = mask_fits b h in
    omega (arith, sum, fits)

pub bit_at-unknown : (b : KnownBits) (i : ℕ) → IsValid b → i < 64
    → bit_at (unknown b) i ≡ 1 - max (bit_at b.zeros i) (bit_at b.ones i)
bit_at-unknown b i h k = bit_at-flipped (bit_or b.zeros b.ones) i (mask_fits b h) k
    ∙ ap (λ (v : ℕ). 1 - v) (bit_at_or b.zeros b.ones i)

pub least_stands : (b : KnownBits) → IsValid b → StandsFor b b.ones
least_stands b h = λ i.
    let e = apart_bits b h i in
    (λ z. omega (arith, e, z), λ o. o)

pub greatest_stands : (b : KnownBits) → IsValid b → StandsFor b (greatest b)
greatest_stands b h = λ i.
    elim (cases_lt i 64) [
      | inl k ↦
          let e = apart_bits b h i in
          let f = bit_at-flipped b.zeros i h.zeros_fit k in
          (λ z. omega (arith, f, z), λ o. omega (arith, e, f, o, bit_at-lt b.zeros i))
      | inr k ↦
          let z0 : bit_at b.zeros i ≡ 0 = bit_at_above b.zeros 64 i h.zeros_fit k in
          let o0 : bit_at b.ones i ≡ 0 = bit_at_above b.ones 64 i h.ones_fit k in
          (λ z. absurd (omega (arith, z, z0)), λ o. absurd (omega (arith, o, o0)))
    ]

pub greatest_fits : (b : KnownBits) → greatest b < 2 ^ 64
greatest_fits b = omega arith

-- what b stands for lies between the least and the greatest word, also in its low bits
pub above_least : (b : KnownBits) (n i : ℕ) → StandsFor b n → b.ones % 2 ^ i ≤ n % 2 ^ i
above_least b n i s = low_of_part n b.ones i (has_from_bits n b.ones (λ j. (s j).1))

pub below_greatest : (b : KnownBits) (n i : ℕ) → IsValid b → n < 2 ^ 64 → StandsFor b n → n % 2 ^ i ≤ greatest b % 2 ^ i
below_greatest b n i h fits s = low_of_part (greatest b) n i (has_from_bits (greatest b) n (λ j e.
    elim (cases_lt j 64) [
      | inl k ↦
          let f = bit_at-flipped b.zeros j h.zeros_fit k in
          elim (two (bit_at b.zeros j) (bit_at-lt b.zeros j)) [
            | inl z ↦ omega (arith, f, z)
            | inr z ↦ absurd (omega (arith, (s j).0 z, e))
          ]
      | inr k ↦ absurd (omega (arith, e, bit_at_above n 64 j fits k))
    ]))

-- a known bit is the same in the least word, in the greatest and in every word between
pub known_alike : (b : KnownBits) (n i : ℕ) → IsValid b → StandsFor b n → i < 64 → bit_at (unknown b) i ≡ 0 →
    (bit_at b.ones i ≡ bit_at n i) × (bit_at (greatest b) i ≡ bit_at n i)
known_alike b n i h s k known =
    let e = apart_bits b h i in
    let f = bit_at-flipped b.zeros i h.zeros_fit k in
    let u = bit_at-unknown b i h k in
    elim (two (bit_at b.zeros i) (bit_at-lt b.zeros i)) [
      | inl z ↦
          let o : bit_at b.ones i ≡ 1 = omega (arith, u, known, z, bit_at-lt b.ones i) in
          let one = (s i).1 o in
          (omega (arith, o, one), omega (arith, f, z, one))
      | inr z ↦
          let zero_is = (s i).0 z in
          (omega (arith, e, z, zero_is), omega (arith, f, z, zero_is))
    ]

-- what is known above is known below
pub unknown_kept : (a b : KnownBits) (i : ℕ) → IsValid a → IsValid b → is_below a b ≡ true → i < 64
    → bit_at (unknown b) i ≡ 0 → bit_at (unknown a) i ≡ 0
unknown_kept a b i ha hb below k known =
    let m = below_facts a b below in
    let u = bit_at-unknown b i hb k in
    let v = bit_at-unknown a i ha k in
    elim (two (bit_at b.zeros i) (bit_at-lt b.zeros i)) [
      | inl z ↦
          let o : bit_at b.ones i ≡ 1 = omega (arith, u, known, z, bit_at-lt b.ones i) in
          omega (arith, v, has_bit a.ones b.ones i m.ones o)
      | inr z ↦ omega (arith, v, has_bit a.zeros b.zeros i m.zeros z)
    ]

module _ (p u : ℕ) (hp : p < 2 ^ 64) (hu : u < 2 ^ 64) where
  pub bit_at-known_but : (i : ℕ) → i < 64 →
      (bit_at (known_but p u).zeros i ≡ min (1 - bit_at p i) (1 - bit_at u i))
      × (bit_at (known_but p u).ones i ≡ min (bit_at p i) (1 - bit_at u i))
  bit_at-known_but i k =
      let ep = bit_at-flipped p i hp k in
      let eu = bit_at-flipped u i hu k in
      (bit_at_and (flipped p) (flipped u) i ∙ omega (arith, ep, eu), bit_at_and p (flipped u) i ∙ omega (arith, eu))

  pub known_but-valid : IsValid (known_but p u)
  known_but-valid =
      let z : (known_but p u).zeros ≤ flipped p = and_le_l (flipped p) (flipped u) in
      let o : (known_but p u).ones ≤ p = and_le_l p (flipped u) in
      let zeros_fit : (known_but p u).zeros < 2 ^ 64 = omega (arith, z, hp) in
      let ones_fit : (known_but p u).ones < 2 ^ 64 = omega (arith, o, hp) in
      record {
        zeros_fit = zeros_fit;
        ones_fit = ones_fit;
        apart = same_from_bits (bit_and (known_but p u).zeros (known_but p u).ones) 0 (λ i.
            bit_at_and (known_but p u).zeros (known_but p u).ones i
            ∙ elim (cases_lt i 64) [
              | inl k ↦ let e = bit_at-known_but i k in omega (arith, e.0, e.1, bit_at-zero i)
              | inr k ↦ omega (arith, bit_at_above (known_but p u).zeros 64 i zeros_fit k, bit_at-zero i)
            ]);
      }

  -- it stands for each number that has p's bits outside u
  pub known_but-stands : (n : ℕ) → ((i : ℕ) → i < 64 → bit_at u i ≡ 0 → bit_at n i ≡ bit_at p i)
      → StandsFor (known_but p u) n
  known_but-stands n same = λ i.
      elim (cases_lt i 64) [
        | inl k ↦
            let e = bit_at-known_but i k in (
              λ z.
                  let v : bit_at u i ≡ 0 = omega (arith, e.0, z, bit_at-lt u i) in
                  omega (arith, e.0, z, same i k v),
              λ o.
                  let v : bit_at u i ≡ 0 = omega (arith, e.1, o, bit_at-lt u i, bit_at-lt p i) in
                  omega (arith, e.1, o, same i k v, bit_at-lt p i),
            )
        | inr k ↦
            let h = known_but-valid in (
              λ z. absurd (omega (arith, z, bit_at_above (known_but p u).zeros 64 i h.zeros_fit k)),
              λ o. absurd (omega (arith, o, bit_at_above (known_but p u).ones 64 i h.ones_fit k)),
            )
      ]

-- the order, where what is known above is known below with the same bits
pub known_but-below : (p u p' u' : ℕ) → p < 2 ^ 64 → u < 2 ^ 64 → p' < 2 ^ 64 → u' < 2 ^ 64 →
    ((i : ℕ) → i < 64 → bit_at u' i ≡ 0 → (bit_at u i ≡ 0) × (bit_at p i ≡ bit_at p' i))
    → is_below (known_but p u) (known_but p' u') ≡ true
known_but-below p u p' u' hp hu hp' hu' kept =
    let h = known_but-valid p' u' hp' hu' in
    below_from (known_but p u) (known_but p' u')
    (has_from_bits (known_but p u).zeros (known_but p' u').zeros (λ i z.
    elim (cases_lt i 64) [
      | inl k ↦
          let e = bit_at-known_but p u hp hu i k in
          let f = bit_at-known_but p' u' hp' hu' i k in
          let v : bit_at u' i ≡ 0 = omega (arith, f.0, z, bit_at-lt u' i) in
          let w = kept i k v in
          omega (arith, e.0, f.0, z, w.0, w.1)
      | inr k ↦ absurd (omega (arith, z, bit_at_above (known_but p' u').zeros 64 i h.zeros_fit k))
    ]))
    (has_from_bits (known_but p u).ones (known_but p' u').ones (λ i o.
    elim (cases_lt i 64) [
      | inl k ↦
          let e = bit_at-known_but p u hp hu i k in
          let f = bit_at-known_but p' u' hp' hu' i k in
          let v : bit_at u' i ≡ 0 = omega (arith, f.1, o, bit_at-lt u' i, bit_at-lt p' i) in
          let w = kept i k v in
          omega (arith, e.1, f.1, o, w.0, w.1)
      | inr k ↦ absurd (omega (arith, o, bit_at_above (known_but p' u').ones 64 i h.ones_fit k))
    ]))

-- the two tests of a word against the masks
pub stands_from_masks : (b : KnownBits) (n : ℕ) → bit_and n b.zeros ≡ 0 → bit_and n b.ones ≡ b.ones → StandsFor b n
stands_from_masks b n h k = λ i.
    let e : min (bit_at n i) (bit_at b.zeros i) ≡ 0 = sym (bit_at_and n b.zeros i) ∙ ap (λ (v : ℕ). bit_at v i) h
    ∙ bit_at-zero i in
    (λ z. omega (arith, e, z), λ o. has_bit n b.ones i k o)

pub masks_from_stands : (b : KnownBits) (n : ℕ) → StandsFor b n → (bit_and n b.zeros ≡ 0) × (bit_and n b.ones ≡ b.ones)
masks_from_stands b n s =
    let none : (i : ℕ) → min (bit_at n i) (bit_at b.zeros i) ≡ bit_at 0 i =
    λ i. elim (two (bit_at b.zeros i) (bit_at-lt b.zeros i))
    [ inl e ↦ omega (arith, e, bit_at-zero i) | inr e ↦ omega (arith, (s i).0 e, bit_at-zero i) ] in
    (same_from_bits (bit_and n b.zeros) 0 (λ i. bit_at_and n b.zeros i ∙ none i), has_from_bits n b.ones (λ i. (s i).1))
