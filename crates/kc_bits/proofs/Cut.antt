-- The low bits of an operand: what is known of them is sound and monotone.
-- Bit by bit: below the width a bit of the cut is the operand's own, above it the bit is known to be 0. Both laws
-- follow from the same two cases of the bit's index.
use Rattle.std.proofs.Common.{◌≡◌, ℕ, ◌+◌, ◌-◌, ◌*◌, ◌%◌, ◌^◌, ◌<◌, ◌≤◌, true, bit_and, bit_or, arith, refl, sym, ap, ◌∙◌, inl, inr, lit≤}
use Rattle.std.proofs.lemmas.Bool.{cases_lt}
use Rattle.std.proofs.lemmas.Nat.{or_disjoint, and_mod, mod_below, pow_pos}
use Rattle.std.proofs.lemmas.Nat.Bits.{same_from_bits, bit_at_and, bit_at_or, bit_at-zero, bit_at_above, bit_at_mask_below, and_high_mask}
use Rattle.std.proofs.Math.Nat.{div-eq_of_lt, zero-mul, pow-le-pow_right}
use Rattle.std.specs.Int.{bit_at}
use Rattle.kc_words.specs.declared.width.Width.{Width}
use Rattle.kc_words.specs.declared.width.Width.TheVariants.{Byte, Long, Quad}
use Rattle.kc_words.specs.Flags.{bits_of, cut}
use Rattle.kc_words.proofs.FlagLemmas.{bit_at-mod, bits_in_range}
use Rattle.kc_bits.specs.KnownBits.{KnownBits}
use Rattle.kc_bits.specs.Bits.{IsValid, StandsFor, is_below, flipped, bits_cut}
use Rattle.kc_bits.specs.BitsLaws.{Has, and_self, below_facts, below_from}
use Rattle.kc_bits.proofs.Masks.{apart_bits}
use Rattle.kc_bits.proofs.Operations.{has_or}

-- the mask above the width, as it is computed
pub high_mask : (w : Width) → flipped (cut w (2 ^ 64 - 1)) ≡ 2 ^ 64 - 2 ^ bits_of w
high_mask Byte = refl
high_mask Long = refl
high_mask Quad = refl

module _ (n : ℕ) (h : n ≤ 64) (low : ℕ) (fits : low < 2 ^ n) where
  above_low : bit_and low (2 ^ 64 - 2 ^ n) ≡ 0
  above_low =
      let up : 2 ^ n ≤ 2 ^ 64 = pow-le-pow_right (lit≤ tt) h in
      let small : low < 2 ^ 64 = omega (arith, fits, up) in
      and_high_mask 64 n h low small ∙ ap (λ (x : ℕ). x * 2 ^ n) (div-eq_of_lt fits) ∙ zero-mul (2 ^ n)

  -- the parts don't overlap
  pub cut_sum : bit_or low (2 ^ 64 - 2 ^ n) ≡ low + (2 ^ 64 - 2 ^ n)
  cut_sum = or_disjoint low (2 ^ 64 - 2 ^ n) above_low

  pub bit_at-cut_sum : (i : ℕ) → i < n → bit_at (low + (2 ^ 64 - 2 ^ n)) i ≡ bit_at low i
  bit_at-cut_sum i k =
      ap (λ (x : ℕ). bit_at x i) (sym cut_sum) ∙ bit_at_or low (2 ^ 64 - 2 ^ n) i
      ∙ omega (arith, bit_at_mask_below n 64 i k)

low_fits : (x n : ℕ) → x % 2 ^ n < 2 ^ n
low_fits x n = mod_below x (2 ^ n) (pow_pos n)

-- the zeros of a cut, as they are computed
pub cut_zeros : (w : Width) (z : ℕ)
    → bit_or (cut w z) (flipped (cut w (2 ^ 64 - 1))) ≡ z % 2 ^ bits_of w + (2 ^ 64 - 2 ^ bits_of w)
cut_zeros w z = ap (bit_or (cut w z)) (high_mask w)
    ∙ cut_sum (bits_of w) (bits_in_range w).1 (z % 2 ^ bits_of w) (low_fits z (bits_of w))

pub cut_apart : (w : Width) (b : KnownBits) → IsValid b
    → bit_and (bits_cut (bits_of w) b).zeros (bits_cut (bits_of w) b).ones ≡ 0
cut_apart w b h =
    let n : ℕ = bits_of w in
    let zeros : ℕ = (bits_cut n b).zeros in
    let ones : ℕ = b.ones % 2 ^ n in
    let range = bits_in_range w in
    same_from_bits (bit_and zeros ones) 0 (λ i.
    bit_at_and zeros ones i
    ∙ elim (cases_lt i n) [
      | inl k ↦
          omega (
            arith,
            bit_at-cut_sum n range.1 (b.zeros % 2 ^ n) (low_fits b.zeros n) i k,
            bit_at-mod b.zeros n i k,
            bit_at-mod b.ones n i k,
            apart_bits b h i,
            bit_at-zero i,
          )
      | inr k ↦ omega (arith, bit_at_above ones n i (low_fits b.ones n) k, bit_at-zero i)
    ])

pub cut_sound : (w : Width) (b : KnownBits) (x : ℕ) → StandsFor b x → StandsFor (bits_cut (bits_of w) b) (cut w x)
cut_sound w b x s = λ i.
    let n : ℕ = bits_of w in
    let range = bits_in_range w in
    elim (cases_lt i n) [
      | inl k ↦
          let same = bit_at-mod x n i k in
          let z = bit_at-cut_sum n range.1 (b.zeros % 2 ^ n) (low_fits b.zeros n) i k in (
            λ e. same ∙ (s i).0 (sym (bit_at-mod b.zeros n i k) ∙ sym z ∙ e),
            λ e. same
                ∙ (s i).1 (sym (bit_at-mod b.ones n i k) ∙ e),
          )
      | inr k ↦ (
        λ e. bit_at_above (x % 2 ^ n) n i (low_fits x n) k,
        λ e. absurd (omega (arith, e, bit_at_above (b.ones % 2 ^ n) n i (low_fits b.ones n) k)),
      )
    ]

has_mod : (x y n : ℕ) → Has x y → Has (x % 2 ^ n) (y % 2 ^ n)
has_mod x y n h = sym (and_mod x y n) ∙ ap (λ (v : ℕ). v % 2 ^ n) h

pub cut_monotone : (w : Width) (a b : KnownBits) → is_below a b ≡ true
    → is_below (bits_cut (bits_of w) a) (bits_cut (bits_of w) b) ≡ true
cut_monotone w a b h =
    let n : ℕ = bits_of w in
    let m : ℕ = 2 ^ 64 - 2 ^ n in
    let range = bits_in_range w in
    let p = below_facts a b h in
    let sum_a : bit_or (a.zeros % 2 ^ n) m ≡ (bits_cut n a).zeros =
    cut_sum n range.1 (a.zeros % 2 ^ n) (low_fits a.zeros n) in
    let sum_b : bit_or (b.zeros % 2 ^ n) m ≡ (bits_cut n b).zeros =
    cut_sum n range.1 (b.zeros % 2 ^ n) (low_fits b.zeros n) in
    let joined : Has (bit_or (a.zeros % 2 ^ n) m) (bit_or (b.zeros % 2 ^ n) m) =
    has_or (a.zeros % 2 ^ n) m (b.zeros % 2 ^ n) m (has_mod a.zeros b.zeros n p.zeros) (and_self m) in
    below_from (bits_cut n a) (bits_cut n b)
    (ap (λ (x : ℕ). bit_and x (bits_cut n b).zeros) (sym sum_a) ∙ ap (bit_and (bit_or (a.zeros % 2 ^ n) m)) (sym sum_b)
    ∙ joined ∙ sum_b)
    (has_mod a.ones b.ones n p.ones)
