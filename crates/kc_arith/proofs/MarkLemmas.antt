-- Flags of which some are given: what is known of them afterwards stands for them.
-- Everything goes by places. At one place, that known bits stand for a number is two orders between bits; what is kept
-- of a mask is the mask's own bit or 0; omega is left those cases.
use Rattle.std.proofs.Common.{◌≡◌, ℕ, ◌+◌, ◌-◌, ◌^◌, ◌<◌, ◌≤◌, min, max, bit_and, arith, sym, ap, ◌∙◌, inl, inr, ◌⊎◌}
use Rattle.std.proofs.lemmas.Bool.{cases_lt}
use Rattle.std.proofs.lemmas.Nat.{and_le_l, and_le_r, or_lt}
use Rattle.std.proofs.lemmas.Nat.Bits.{same_from_bits, bit_at_and, bit_at_or, bit_at-lt, bit_at-zero, bit_at_above}
use Rattle.std.specs.Int.{bit_at}
use Rattle.kc_bits.specs.KnownBits.{KnownBits}
use Rattle.kc_bits.specs.Bits.{IsValid, StandsFor, flipped}
use Rattle.kc_bits.specs.BitsLaws.{Has}
use Rattle.kc_bits.proofs.Masks.{two, bit_at-flipped}
use Rattle.kc_state.specs.Flags.{marked}
use Rattle.kc_exec.specs.RFlags.{replaced}
use Rattle.kc_arith.specs.Covers.{Covers, Gives}

-- ---- one place

-- what is known of a number at one place
abbrev pub KnownAt : KnownBits → ℕ → ℕ → Type 0
KnownAt b n i = (bit_at b.zeros i + bit_at n i ≤ 1) × (bit_at b.ones i ≤ bit_at n i)

pub known_at : (b : KnownBits) (n i : ℕ) → StandsFor b n → KnownAt b n i
known_at b n i s = (zero, one)
  where
    zero : bit_at b.zeros i + bit_at n i ≤ 1
    zero = elim (two (bit_at b.zeros i) (bit_at-lt b.zeros i)) [
      | inl e ↦ omega (arith, e, bit_at-lt n i)
      | inr e ↦ omega (arith, e, (s i).0 e)
    ]

    one : bit_at b.ones i ≤ bit_at n i
    one = elim (two (bit_at b.ones i) (bit_at-lt b.ones i)) [
      | inl e ↦ omega (arith, e)
      | inr e ↦ omega (arith, e, (s i).1 e)
    ]

pub stands_from : (b : KnownBits) (n : ℕ) → ((i : ℕ) → KnownAt b n i) → StandsFor b n
stands_from b n k = λ i. (
  λ z. omega (arith, (k i).0, z),
  λ o. omega (arith, (k i).1, o, bit_at-lt n i),
)

-- what stands for some number knows no bit both ways
pub apart_from : (b : KnownBits) (n : ℕ) → StandsFor b n → bit_and b.zeros b.ones ≡ 0
apart_from b n s = same_from_bits (bit_and b.zeros b.ones) 0 (λ i.
    let k = known_at b n i s in
    bit_at_and b.zeros b.ones i ∙ omega (arith, k.0, k.1, bit_at-zero i))

pub has_le : (x y i : ℕ) → Has x y → bit_at y i ≤ bit_at x i
has_le x y i h =
    let e : min (bit_at x i) (bit_at y i) ≡ bit_at y i = sym (bit_at_and x y i) ∙ ap (λ (v : ℕ). bit_at v i) h in
    omega (arith, e)

-- ---- masks

-- what is kept of a mask
kept_bit : (kept forget i : ℕ) → forget < 2 ^ 64 →
    ((i < 64) × (bit_at forget i ≡ 0) × (bit_at (bit_and kept (flipped forget)) i ≡ bit_at kept i))
    ⊎ (bit_at (bit_and kept (flipped forget)) i ≡ 0)
kept_bit kept forget i fits = elim (cases_lt i 64) [
  | inl k ↦ elim (two (bit_at forget i) (bit_at-lt forget i)) [
    | inl e ↦
        let is : bit_at (bit_and kept (flipped forget)) i ≡ bit_at kept i =
        bit_at_and kept (flipped forget) i ∙ omega (arith, bit_at-flipped forget i fits k, e, bit_at-lt kept i) in
        inl (k, e, is)
    | inr e ↦ inr (bit_at_and kept (flipped forget) i ∙ omega (arith, bit_at-flipped forget i fits k, e))
  ]
  | inr k ↦ inr (bit_at_and kept (flipped forget) i ∙ omega (arith, bit_at_above (flipped forget) 64 i (omega arith) k))
]

-- a number is known where it agrees with the old flags outside of what is forgotten, and what is given of it is right
pub marked_stands : (b : KnownBits) (forget ones zeros flags n : ℕ) → forget < 2 ^ 64 → StandsFor b flags
    → ((i : ℕ) → i < 64 → bit_at forget i ≡ 0 → bit_at n i ≡ bit_at flags i)
    → ((i : ℕ) → bit_at ones i ≤ bit_at n i) → ((i : ℕ) → bit_at zeros i + bit_at n i ≤ 1)
    → StandsFor (marked b forget ones zeros) n
marked_stands b forget ones zeros flags n fits s agree one zero = stands_from (marked b forget ones zeros) n (λ i.
    (known_zero i, known_one i))
  where
    known_zero : (i : ℕ) → bit_at (marked b forget ones zeros).zeros i + bit_at n i ≤ 1
    known_zero i = elim (kept_bit b.zeros forget i fits) [
      | inl k ↦
          omega (
            arith,
            bit_at_or (bit_and b.zeros (flipped forget)) zeros i,
            k.2,
            (known_at b flags i s).0,
            agree i k.0 k.1,
            zero i,
          )
      | inr e ↦ omega (arith, bit_at_or (bit_and b.zeros (flipped forget)) zeros i, e, zero i)
    ]

    known_one : (i : ℕ) → bit_at (marked b forget ones zeros).ones i ≤ bit_at n i
    known_one i = elim (kept_bit b.ones forget i fits) [
      | inl k ↦
          omega (
            arith,
            bit_at_or (bit_and b.ones (flipped forget)) ones i,
            k.2,
            (known_at b flags i s).1,
            agree i k.0 k.1,
            one i,
          )
      | inr e ↦ omega (arith, bit_at_or (bit_and b.ones (flipped forget)) ones i, e, one i)
    ]

-- its masks are words
pub marked_valid : (b : KnownBits) (forget ones zeros n : ℕ) → ones < 2 ^ 64 → zeros < 2 ^ 64
    → StandsFor (marked b forget ones zeros) n → IsValid (marked b forget ones zeros)
marked_valid b forget ones zeros n ones_fit zeros_fit s =
    let kept_zeros : bit_and b.zeros (flipped forget) ≤ flipped forget = and_le_r b.zeros (flipped forget) in
    let kept_ones : bit_and b.ones (flipped forget) ≤ flipped forget = and_le_r b.ones (flipped forget) in
    record {
      zeros_fit = or_lt 64 (bit_and b.zeros (flipped forget)) zeros (omega (arith, kept_zeros)) zeros_fit;
      ones_fit = or_lt 64 (bit_and b.ones (flipped forget)) ones (omega (arith, kept_ones)) ones_fit;
      apart = apart_from (marked b forget ones zeros) n s;
    }

-- ---- replaced flags

pub bit_at-replaced : (defined new flags i : ℕ) → defined < 2 ^ 64 → i < 64
    → bit_at (replaced defined new flags) i ≡ max (min (bit_at flags i) (1 - bit_at defined i))
    (min (bit_at new i) (bit_at defined i))
bit_at-replaced defined new flags i fits k =
    bit_at_or (bit_and flags (flipped defined)) (bit_and new defined) i
    ∙ omega (
      arith,
      bit_at_and flags (flipped defined) i,
      bit_at-flipped defined i fits k,
      bit_at_and new defined i,
    )

-- a defined flag is the new one
pub defined_bit : (defined new f i : ℕ) → defined < 2 ^ 64 → i < 64 → bit_at defined i ≡ 1
    → bit_at (replaced defined new f) i ≡ bit_at new i
defined_bit defined new f i fits k e =
    bit_at-replaced defined new f i fits k ∙ omega (arith, e, bit_at-lt new i)

-- a new bit where it is defined is one of the flags afterwards
new_bit : (defined new flags i : ℕ) → min (bit_at new i) (bit_at defined i) ≤ bit_at (replaced defined new flags) i
new_bit defined new flags i =
    omega (
      arith,
      bit_at_or (bit_and flags (flipped defined)) (bit_and new defined) i,
      bit_at_and new defined i,
    )

pub replaced_fits : (defined new flags : ℕ) → defined < 2 ^ 64 → replaced defined new flags < 2 ^ 64
replaced_fits defined new flags fits =
    let kept : bit_and flags (flipped defined) ≤ flipped defined = and_le_r flags (flipped defined) in
    let given : bit_and new defined ≤ defined = and_le_r new defined in
    or_lt 64 (bit_and flags (flipped defined)) (bit_and new defined) (omega (arith, kept)) (omega (arith, given, fits))

pub replaced_stands : (b : KnownBits) (forget ones zeros defined new flags : ℕ)
    → Gives forget ones zeros defined new → StandsFor b flags
    → StandsFor (marked b forget ones zeros) (replaced defined new flags)
replaced_stands b forget ones zeros defined new flags g s =
    marked_stands b forget ones zeros flags (replaced defined new flags) g.forget_fits s agree one zero
  where
    agree : (i : ℕ) → i < 64 → bit_at forget i ≡ 0 → bit_at (replaced defined new flags) i ≡ bit_at flags i
    agree i k e =
        omega (
          arith,
          bit_at-replaced defined new flags i g.defined_fits k,
          has_le forget defined i g.forgets,
          e,
          bit_at-lt flags i,
        )

    one : (i : ℕ) → bit_at ones i ≤ bit_at (replaced defined new flags) i
    one i =
        omega (
          arith,
          has_le (bit_and new defined) ones i g.ones_given,
          bit_at_and new defined i,
          new_bit defined new flags i,
        )

    zero : (i : ℕ) → bit_at zeros i + bit_at (replaced defined new flags) i ≤ 1
    zero i = elim (cases_lt i 64) [
      | inl k ↦
          omega (
            arith,
            has_le (bit_and (flipped new) defined) zeros i g.zeros_given,
            bit_at_and (flipped new) defined i,
            bit_at-flipped new i g.new_fits k,
            bit_at-replaced defined new flags i g.defined_fits k,
            bit_at-lt flags i,
            bit_at-lt new i,
            bit_at-lt defined i,
          )
      | inr k ↦
          omega (
            arith,
            has_le (bit_and (flipped new) defined) zeros i g.zeros_given,
            bit_at_and (flipped new) defined i,
            bit_at_above defined 64 i g.defined_fits k,
            bit_at-lt (replaced defined new flags) i,
          )
    ]

-- a mask with all its bits in another one is no greater
part_le : (x y : ℕ) → Has x y → y ≤ x
part_le x y h =
    let le : bit_and x y ≤ x = and_le_l x y in
    omega (arith, le, h)

pub flags_replaced : (b : KnownBits) (forget ones zeros defined new flags : ℕ) → Gives forget ones zeros defined new
    → StandsFor b flags → Covers (marked b forget ones zeros) (replaced defined new flags)
flags_replaced b forget ones zeros defined new flags g s =
    let stands = replaced_stands b forget ones zeros defined new flags g s in
    let ones_le = part_le (bit_and new defined) ones g.ones_given in
    let zeros_le = part_le (bit_and (flipped new) defined) zeros g.zeros_given in
    let in_new : bit_and new defined ≤ defined = and_le_r new defined in
    let in_turned : bit_and (flipped new) defined ≤ defined = and_le_r (flipped new) defined in
    record {
      valid =
          marked_valid b forget ones zeros (replaced defined new flags) (omega (arith, ones_le, in_new, g.defined_fits))
          (omega (arith, zeros_le, in_turned, g.defined_fits)) stands;
      fits = replaced_fits defined new flags g.defined_fits;
      stands = stands;
    }
