-- The three operations on single bits are sound and monotone.
-- Each law is one on a single bit, by cases on what is known of both operands there, carried to words by Masks.
use Rattle.std.proofs.Common.{◌≡◌, ℕ, min, max, bit_and, bit_or, bit_xor, arith, sym, ap, ◌∙◌, inl, inr}
use Rattle.std.proofs.lemmas.Nat.Bits.{same_from_bits, bit_at_and, bit_at_or, bit_at_xor, bit_at-lt, bit_at-zero}
use Rattle.std.specs.Int.{bit_at}
use Rattle.kc_bits.specs.KnownBits.{KnownBits}
use Rattle.kc_bits.specs.Bits.{bits_and, bits_or, bits_xor, IsSound, IsMonotoneAt}
use Rattle.kc_bits.specs.BitsLaws.{Has, below_facts, below_from}
use Rattle.kc_bits.proofs.Masks.{two}

has_and : (x y x' y' : ℕ) → Has x x' → Has y y' → Has (bit_and x y) (bit_and x' y')
has_and x y x' y' h k = same_from_bits (bit_and (bit_and x y) (bit_and x' y')) (bit_and x' y') (λ i.
    let e : min (bit_at x i) (bit_at x' i) ≡ bit_at x' i = sym (bit_at_and x x' i) ∙ ap (λ (v : ℕ). bit_at v i) h in
    let f : min (bit_at y i) (bit_at y' i) ≡ bit_at y' i = sym (bit_at_and y y' i) ∙ ap (λ (v : ℕ). bit_at v i) k in
    rw (bit_at_and (bit_and x y) (bit_and x' y') i, bit_at_and x y i, bit_at_and x' y' i) (omega (arith, e, f)))

pub has_or : (x y x' y' : ℕ) → Has x x' → Has y y' → Has (bit_or x y) (bit_or x' y')
has_or x y x' y' h k = same_from_bits (bit_and (bit_or x y) (bit_or x' y')) (bit_or x' y') (λ i.
    let e : min (bit_at x i) (bit_at x' i) ≡ bit_at x' i = sym (bit_at_and x x' i) ∙ ap (λ (v : ℕ). bit_at v i) h in
    let f : min (bit_at y i) (bit_at y' i) ≡ bit_at y' i = sym (bit_at_and y y' i) ∙ ap (λ (v : ℕ). bit_at v i) k in
    rw (bit_at_and (bit_or x y) (bit_or x' y') i, bit_at_or x y i, bit_at_or x' y' i) (omega (arith, e, f)))

pub and_sound : (a b : KnownBits) → IsSound bit_and a b (bits_and a b)
and_sound a b = λ x y hx hy s t i.
    let zeros = bit_at_or a.zeros b.zeros i in
    let ones = bit_at_and a.ones b.ones i in
    let made = bit_at_and x y i in (
      λ z.
          elim (two (bit_at a.zeros i) (bit_at-lt a.zeros i)) [
            | inl e ↦ omega (arith, made, (t i).0 (omega (arith, zeros, z, e)))
            | inr e ↦ omega (arith, made, (s i).0 e)
          ],
      λ o.
          let p : bit_at a.ones i ≡ 1 = omega (arith, ones, o, bit_at-lt a.ones i, bit_at-lt b.ones i) in
          let q : bit_at b.ones i ≡ 1 = omega (arith, ones, o, bit_at-lt a.ones i, bit_at-lt b.ones i) in
          omega (arith, made, (s i).1 p, (t i).1 q),
    )

pub or_sound : (a b : KnownBits) → IsSound bit_or a b (bits_or a b)
or_sound a b = λ x y hx hy s t i.
    let zeros = bit_at_and a.zeros b.zeros i in
    let ones = bit_at_or a.ones b.ones i in
    let made = bit_at_or x y i in (
      λ z.
          let p : bit_at a.zeros i ≡ 1 = omega (arith, zeros, z, bit_at-lt a.zeros i, bit_at-lt b.zeros i) in
          let q : bit_at b.zeros i ≡ 1 = omega (arith, zeros, z, bit_at-lt a.zeros i, bit_at-lt b.zeros i) in
          omega (arith, made, (s i).0 p, (t i).0 q),
      λ o.
          elim (two (bit_at a.ones i) (bit_at-lt a.ones i)) [
            | inl e ↦ omega (arith, made, (t i).1 (omega (arith, ones, o, e)), bit_at-lt x i)
            | inr e ↦ omega (arith, made, (s i).1 e, bit_at-lt y i)
          ],
    )

-- a bit of (p and q) or (r and s)
bit_at-pairs : (p q r s i : ℕ)
    → bit_at (bit_or (bit_and p q) (bit_and r s)) i ≡ max (min (bit_at p i) (bit_at q i))
    (min (bit_at r i) (bit_at s i))
bit_at-pairs p q r s i = bit_at_or (bit_and p q) (bit_and r s) i ∙ omega (arith, bit_at_and p q i, bit_at_and r s i)

pub xor_sound : (a b : KnownBits) → IsSound bit_xor a b (bits_xor a b)
xor_sound a b = λ x y hx hy s t i.
    let zeros = bit_at-pairs a.zeros b.zeros a.ones b.ones i in
    let ones = bit_at-pairs a.zeros b.ones a.ones b.zeros i in
    let made = bit_at_xor x y i in (
      λ z.
          elim (two (bit_at a.zeros i) (bit_at-lt a.zeros i)) [
            | inl e ↦
                let p : bit_at a.ones i ≡ 1 = omega (arith, zeros, z, e, bit_at-lt a.ones i, bit_at-lt b.ones i) in
                let q : bit_at b.ones i ≡ 1 = omega (arith, zeros, z, e, bit_at-lt a.ones i, bit_at-lt b.ones i) in
                omega (arith, made, (s i).1 p, (t i).1 q)
            | inr e ↦
                elim (two (bit_at b.zeros i) (bit_at-lt b.zeros i)) [
                  | inl f ↦
                      let p : bit_at a.ones i ≡ 1 =
                      omega (arith, zeros, z, e, f, bit_at-lt a.ones i, bit_at-lt b.ones i) in
                      absurd (omega (arith, (s i).0 e, (s i).1 p))
                  | inr f ↦ omega (arith, made, (s i).0 e, (t i).0 f)
                ]
          ],
      λ o.
          elim (two (bit_at a.zeros i) (bit_at-lt a.zeros i)) [
            | inl e ↦
                let p : bit_at a.ones i ≡ 1 = omega (arith, ones, o, e, bit_at-lt a.ones i, bit_at-lt b.zeros i) in
                let q : bit_at b.zeros i ≡ 1 = omega (arith, ones, o, e, bit_at-lt a.ones i, bit_at-lt b.zeros i) in
                omega (arith, made, (s i).1 p, (t i).0 q)
            | inr e ↦
                elim (two (bit_at b.ones i) (bit_at-lt b.ones i)) [
                  | inl f ↦
                      let p : bit_at a.ones i ≡ 1 =
                      omega (arith, ones, o, e, f, bit_at-lt a.ones i, bit_at-lt b.zeros i) in
                      absurd (omega (arith, (s i).0 e, (s i).1 p))
                  | inr f ↦ omega (arith, made, (s i).0 e, (t i).1 f)
                ]
          ],
    )

pub and_monotone : (a b : KnownBits) → IsMonotoneAt bits_and a b
and_monotone a b = λ a' b' ha hb h k.
    let p = below_facts a a' h in
    let q = below_facts b b' k in
    below_from (bits_and a b) (bits_and a' b') (has_or a.zeros b.zeros a'.zeros b'.zeros p.zeros q.zeros)
    (has_and a.ones b.ones a'.ones b'.ones p.ones q.ones)

pub or_monotone : (a b : KnownBits) → IsMonotoneAt bits_or a b
or_monotone a b = λ a' b' ha hb h k.
    let p = below_facts a a' h in
    let q = below_facts b b' k in
    below_from (bits_or a b) (bits_or a' b') (has_and a.zeros b.zeros a'.zeros b'.zeros p.zeros q.zeros)
    (has_or a.ones b.ones a'.ones b'.ones p.ones q.ones)

pub xor_monotone : (a b : KnownBits) → IsMonotoneAt bits_xor a b
xor_monotone a b = λ a' b' ha hb h k.
    let p = below_facts a a' h in
    let q = below_facts b b' k in
    below_from (bits_xor a b) (bits_xor a' b')
    (has_or (bit_and a.zeros b.zeros) (bit_and a.ones b.ones) (bit_and a'.zeros b'.zeros) (bit_and a'.ones b'.ones)
    (has_and a.zeros b.zeros a'.zeros b'.zeros p.zeros q.zeros) (has_and a.ones b.ones a'.ones b'.ones p.ones q.ones))
    (has_or (bit_and a.zeros b.ones) (bit_and a.ones b.zeros) (bit_and a'.zeros b'.ones) (bit_and a'.ones b'.zeros)
    (has_and a.zeros b.ones a'.zeros b'.ones p.zeros q.ones) (has_and a.ones b.zeros a'.ones b'.zeros p.ones q.zeros))

-- no bit of a result is known both ways
module _ (a b : KnownBits) (ha : bit_and a.zeros a.ones ≡ 0) (hb : bit_and b.zeros b.ones ≡ 0) where
  left : (i : ℕ) → min (bit_at a.zeros i) (bit_at a.ones i) ≡ 0
  left i = sym (bit_at_and a.zeros a.ones i) ∙ ap (λ (v : ℕ). bit_at v i) ha ∙ bit_at-zero i

  right : (i : ℕ) → min (bit_at b.zeros i) (bit_at b.ones i) ≡ 0
  right i = sym (bit_at_and b.zeros b.ones i) ∙ ap (λ (v : ℕ). bit_at v i) hb ∙ bit_at-zero i

  pub and_apart : bit_and (bit_or a.zeros b.zeros) (bit_and a.ones b.ones) ≡ 0
  and_apart = same_from_bits (bit_and (bit_or a.zeros b.zeros) (bit_and a.ones b.ones)) 0 (λ i.
      bit_at_and (bit_or a.zeros b.zeros) (bit_and a.ones b.ones) i
      ∙ omega (arith, bit_at_or a.zeros b.zeros i, bit_at_and a.ones b.ones i, left i, right i, bit_at-zero i))

  pub or_apart : bit_and (bit_and a.zeros b.zeros) (bit_or a.ones b.ones) ≡ 0
  or_apart = same_from_bits (bit_and (bit_and a.zeros b.zeros) (bit_or a.ones b.ones)) 0 (λ i.
      bit_at_and (bit_and a.zeros b.zeros) (bit_or a.ones b.ones) i
      ∙ omega (arith, bit_at_and a.zeros b.zeros i, bit_at_or a.ones b.ones i, left i, right i, bit_at-zero i))

  pub xor_apart : bit_and (bits_xor a b).zeros (bits_xor a b).ones ≡ 0
  xor_apart = same_from_bits (bit_and (bits_xor a b).zeros (bits_xor a b).ones) 0 (λ i.
      bit_at_and (bits_xor a b).zeros (bits_xor a b).ones i
      ∙ omega (
        arith,
        bit_at-pairs a.zeros b.zeros a.ones b.ones i,
        bit_at-pairs a.zeros b.ones a.ones b.zeros i,
        left i,
        right i,
        bit_at-zero i,
      ))
