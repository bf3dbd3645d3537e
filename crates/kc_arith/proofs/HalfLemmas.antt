-- Halves of words: what is known of the upper one, and of a word that is made of two lower ones. A bit of a half is the
-- word's bit 32 places above it; a word of two halves is a block of bits above another one.
use Rattle.std.proofs.Common.{◌≡◌, ℕ, ◌+◌, ◌-◌, ◌*◌, ◌/◌, ◌%◌, ◌^◌, ◌<◌, ◌≤◌, inl, inr, ap, arith}
use Rattle.std.proofs.lemmas.Bool.{cases_lt}
use Rattle.std.proofs.lemmas.Nat.{pow_pos, mod_below, shr-shr}
use Rattle.std.proofs.lemmas.Nat.Bits.{bit_at_cat_low, bit_at_cat_high, bit_at_above, bit_at-lt}
use Rattle.std.specs.Int.{bit_at}
use Rattle.kc_words.proofs.FlagLemmas.{bit_at-mod}
use Rattle.kc_bits.specs.KnownBits.{KnownBits}
use Rattle.kc_bits.specs.Bits.{StandsFor}
use Rattle.kc_bits.proofs.Cut.{bit_at-cut_sum}
use Rattle.kc_state.specs.AbsEffect.{upper}
use Rattle.kc_arith.specs.Covers.{Covers, joined}
use Rattle.kc_arith.proofs.MarkLemmas.{KnownAt, known_at, stands_from, apart_from}

-- bit i of the upper half
bit_at-upper : (x i : ℕ) → bit_at (x / 2 ^ 32) i ≡ bit_at x (32 + i)
bit_at-upper x i = ap (λ (v : ℕ). v % 2) (shr-shr x 32 i)

upper_at : (b : KnownBits) (n i : ℕ) → b.zeros < 2 ^ 64 → n < 2 ^ 64 → StandsFor b n → KnownAt (upper b) (n / 2 ^ 32) i
upper_at b n i zeros_fit fits s = elim (cases_lt i 32) [
  | inl low ↦
      let known = known_at b n (32 + i) s in
      let half : b.zeros / 2 ^ 32 < 2 ^ 32 = omega (arith, zeros_fit) in
      let zeros : bit_at (b.zeros / 2 ^ 32 + (2 ^ 64 - 2 ^ 32)) i ≡ bit_at (b.zeros / 2 ^ 32) i =
      bit_at-cut_sum 32 (omega arith) (b.zeros / 2 ^ 32) half i low in (
        omega (arith, zeros, bit_at-upper b.zeros i, bit_at-upper n i, known.0),
        omega (arith, bit_at-upper b.ones i, bit_at-upper n i, known.1),
      )
  | inr high ↦
      let number : bit_at (n / 2 ^ 32) i ≡ 0 = bit_at_above (n / 2 ^ 32) 32 i (omega (arith, fits)) high in
      let ones : bit_at (b.ones / 2 ^ 32) i ≤ bit_at (n / 2 ^ 32) i =
      omega (arith, bit_at-upper b.ones i, bit_at-upper n i, (known_at b n (32 + i) s).1) in
      (omega (arith, number, bit_at-lt (upper b).zeros i), ones)
]

pub upper_covers : (b : KnownBits) (n : ℕ) → Covers b n → Covers (upper b) (n / 2 ^ 32)
upper_covers b n c =
    let stands = stands_from (upper b) (n / 2 ^ 32) (λ i. upper_at b n i c.valid.zeros_fit c.fits c.stands) in
    record {
      valid = record {
        zeros_fit = omega (arith, c.valid.zeros_fit);
        ones_fit = omega (arith, c.valid.ones_fit);
        apart = apart_from (upper b) (n / 2 ^ 32) stands;
      };
      fits = omega (arith, c.fits);
      stands = stands;
    }

half_fits : (x : ℕ) → x % 2 ^ 32 < 2 ^ 32
half_fits x = mod_below x (2 ^ 32) (pow_pos 32)

-- the low bits of a word, at each place
low_at : (b : KnownBits) (n i : ℕ) → StandsFor b n → (bit_at (b.zeros % 2 ^ 32) i + bit_at (n % 2 ^ 32) i ≤ 1)
    × (bit_at (b.ones % 2 ^ 32) i ≤ bit_at (n % 2 ^ 32) i)
low_at b n i s = elim (cases_lt i 32) [
  | inl k ↦
      let known = known_at b n i s in (
        omega (arith, bit_at-mod b.zeros 32 i k, bit_at-mod n 32 i k, known.0),
        omega (arith, bit_at-mod b.ones 32 i k, bit_at-mod n 32 i k, known.1),
      )
  | inr k ↦
      let number = bit_at_above (n % 2 ^ 32) 32 i (half_fits n) k in
      let ones = bit_at_above (b.ones % 2 ^ 32) 32 i (half_fits b.ones) k in
      (omega (arith, number, bit_at-lt (b.zeros % 2 ^ 32) i), omega (arith, number, ones))
]

joined_at : (high low : KnownBits) (x y i : ℕ) → StandsFor high x → StandsFor low y
    → KnownAt (joined high low) (x % 2 ^ 32 * 2 ^ 32 + y % 2 ^ 32) i
joined_at high low x y i s t = elim (cases_lt i 32) [
  | inl k ↦
      let known = low_at low y i t in
      let number = bit_at_cat_low (x % 2 ^ 32) 32 (y % 2 ^ 32) i k in (
        omega (arith, bit_at_cat_low (high.zeros % 2 ^ 32) 32 (low.zeros % 2 ^ 32) i k, number, known.0),
        omega (arith, bit_at_cat_low (high.ones % 2 ^ 32) 32 (low.ones % 2 ^ 32) i k, number, known.1),
      )
  | inr k ↦
      let known = low_at high x (i - 32) s in
      let number = bit_at_cat_high (x % 2 ^ 32) 32 (y % 2 ^ 32) i (half_fits y) k in (
        omega (
          arith,
          bit_at_cat_high (high.zeros % 2 ^ 32) 32 (low.zeros % 2 ^ 32) i (half_fits low.zeros) k,
          number,
          known.0,
        ),
        omega (
          arith,
          bit_at_cat_high (high.ones % 2 ^ 32) 32 (low.ones % 2 ^ 32) i (half_fits low.ones) k,
          number,
          known.1,
        ),
      )
]

pub joined_covers : (high low : KnownBits) (x y : ℕ) → StandsFor high x → StandsFor low y
    → Covers (joined high low) (x % 2 ^ 32 * 2 ^ 32 + y % 2 ^ 32)
joined_covers high low x y s t =
    let stands =
    stands_from (joined high low) (x % 2 ^ 32 * 2 ^ 32 + y % 2 ^ 32) (λ i. joined_at high low x y i s t) in
    record {
      valid = record {
        zeros_fit = omega arith;
        ones_fit = omega arith;
        apart = apart_from (joined high low) (x % 2 ^ 32 * 2 ^ 32 + y % 2 ^ 32) stands;
      };
      fits = omega arith;
      stands = stands;
    }
