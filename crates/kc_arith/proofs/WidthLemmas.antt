-- Known bits at an operand's width and times a scale, and values at a width.
-- A cut is kc_bits' own law; that its masks are apart follows from what it stands for. A scale is a block of bits above
-- another one: below it lie known zeros, above it the word's own bits. A value at a width is the value itself, or
-- derived from a cut.
use Rattle.std.proofs.Common.{◌≡◌, ℕ, ◌+◌, ◌-◌, ◌*◌, ◌%◌, ◌^◌, ◌<◌, ◌≤◌, true, ◌⊎◌, inl, inr, refl, sym, ap, ◌∙◌, subst, arith}
use Rattle.std.proofs.lemmas.Bool.{cases_lt}
use Rattle.std.proofs.lemmas.Nat.{pow_pos, mod_below}
use Rattle.std.proofs.lemmas.Nat.Bits.{bit_at_cat_low, bit_at_cat_high, bit_at_above, bit_at-lt, bit_at-zero}
use Rattle.std.proofs.Math.Nat.{mod-eq_of_lt}
use Rattle.std.specs.Int.{bit_at}
use Rattle.kc_words.specs.Flags.{bits_of, cut}
use Rattle.kc_words.specs.declared.width.Width.{Width}
use Rattle.kc_words.specs.declared.width.Width.TheVariants.{Byte, Long, Quad}
use Rattle.kc_words.proofs.FlagLemmas.{bit_at-mod}
use Rattle.kc_bits.specs.KnownBits.{KnownBits}
use Rattle.kc_bits.specs.Bits.{StandsFor, word, bits_cut}
use Rattle.kc_bits.proofs.Cut.{cut_sound}
use Rattle.kc_regions.specs.Description.{Description}
use Rattle.kc_regions.specs.Region.{stack_of}
use Rattle.kc_value.specs.AbsValue.{AbsValue}
use Rattle.kc_value.specs.Value.{Represents}
use Rattle.kc_value.specs.declared.env.ValueEnv.{ValueEnv}
use Rattle.kc_value.proofs.MadeLemmas.{derived_stands}
use Rattle.kc_state.specs.Operand.{at_width, bits_value, scaled_bits}
use Rattle.kc_state.specs.Scaled.{is_scale}
use Rattle.kc_state.proofs.ScaleLemmas.{scales, scaled_fits}
use Rattle.kc_arith.specs.Covers.{Covers, HasBits, SamePlaces, StandsAt}
use Rattle.kc_arith.proofs.MarkLemmas.{known_at, stands_from, apart_from}

-- ---- widths

pub below_word : (w : Width) (n : ℕ) → n < 2 ^ bits_of w → n < 2 ^ 64
below_word Byte n h = omega (arith, h)
below_word Long n h = omega (arith, h)
below_word Quad n h = h

zeros_fit : (w : Width) (b : KnownBits) → (bits_cut (bits_of w) b).zeros < 2 ^ 64
zeros_fit Byte b = omega arith
zeros_fit Long b = omega arith
zeros_fit Quad b = omega arith

pub cut_fits : (w : Width) (n : ℕ) → cut w n < 2 ^ bits_of w
cut_fits w n = mod_below n (2 ^ bits_of w) (pow_pos (bits_of w))

-- a cut that stands for a number is valid, whatever was cut
pub cut_covers : (w : Width) (b : KnownBits) (n : ℕ) → n < 2 ^ bits_of w → StandsFor (bits_cut (bits_of w) b) n
    → Covers (bits_cut (bits_of w) b) n
cut_covers w b n fits s = record {
  valid = record {
    zeros_fit = zeros_fit w b;
    ones_fit = below_word w (b.ones % 2 ^ bits_of w) (cut_fits w b.ones);
    apart = apart_from (bits_cut (bits_of w) b) n s;
  };
  fits = below_word w n fits;
  stands = s;
}

pub cut_stands : (w : Width) (b : KnownBits) (n : ℕ) → StandsFor b n → Covers (bits_cut (bits_of w) b) (cut w n)
cut_stands w b n s = cut_covers w b (cut w n) (cut_fits w n) (cut_sound w b n s)

-- ---- scales

-- m bits of a word above k places, of which ones are known to be 0
block_at : (b : KnownBits) (n k m r i : ℕ) → r < 2 ^ k → StandsFor b n →
    (bit_at (b.zeros % 2 ^ m * 2 ^ k + r) i + bit_at (n % 2 ^ m * 2 ^ k + 0) i ≤ 1)
    × (bit_at (b.ones % 2 ^ m * 2 ^ k + 0) i ≤ bit_at (n % 2 ^ m * 2 ^ k + 0) i)
block_at b n k m r i fits s = elim (cases_lt i k) [
  | inl low ↦
      let number : bit_at (n % 2 ^ m * 2 ^ k + 0) i ≡ 0 = bit_at_cat_low (n % 2 ^ m) k 0 i low ∙ bit_at-zero i in
      let ones : bit_at (b.ones % 2 ^ m * 2 ^ k + 0) i ≡ 0 = bit_at_cat_low (b.ones % 2 ^ m) k 0 i low
      ∙ bit_at-zero i in
      (omega (arith, number, bit_at-lt (b.zeros % 2 ^ m * 2 ^ k + r) i), omega (arith, number, ones))
  | inr high ↦
      let none : 0 < 2 ^ k = pow_pos k in
      let zeros = bit_at_cat_high (b.zeros % 2 ^ m) k r i fits high in
      let ones = bit_at_cat_high (b.ones % 2 ^ m) k 0 i none high in
      let number = bit_at_cat_high (n % 2 ^ m) k 0 i none high in
      let known = above (i - k) in
      (omega (arith, zeros, number, known.0), omega (arith, ones, number, known.1))
]
  where
    above : (j : ℕ) → (bit_at (b.zeros % 2 ^ m) j + bit_at (n % 2 ^ m) j ≤ 1)
        × (bit_at (b.ones % 2 ^ m) j ≤ bit_at (n % 2 ^ m) j)
    above j = elim (cases_lt j m) [
      | inl h ↦
          let known = known_at b n j s in (
            omega (arith, bit_at-mod b.zeros m j h, bit_at-mod n m j h, known.0),
            omega (arith, bit_at-mod b.ones m j h, bit_at-mod n m j h, known.1),
          )
      | inr h ↦
          let number = bit_at_above (n % 2 ^ m) m j (mod_below n (2 ^ m) (pow_pos m)) h in
          let ones = bit_at_above (b.ones % 2 ^ m) m j (mod_below b.ones (2 ^ m) (pow_pos m)) h in
          (omega (arith, number, bit_at-lt (b.zeros % 2 ^ m) j), omega (arith, number, ones))
    ]

-- known bits and a word by blocks, where they are such
by_block : (b c : KnownBits) (n p k m r : ℕ) → r < 2 ^ k → StandsFor b n → c.zeros ≡ b.zeros % 2 ^ m * 2 ^ k + r
    → c.ones ≡ b.ones % 2 ^ m * 2 ^ k + 0 → p ≡ n % 2 ^ m * 2 ^ k + 0 → StandsFor c p
by_block b c n p k m r fits s zeros ones number = stands_from c p (λ i.
    let at = block_at b n k m r i fits s in
    let z = ap (λ (v : ℕ). bit_at v i) zeros in
    let o = ap (λ (v : ℕ). bit_at v i) ones in
    let q = ap (λ (v : ℕ). bit_at v i) number in
    (omega (arith, at.0, z, q), omega (arith, at.1, o, q)))

scaled_stands : (b : KnownBits) (n s : ℕ) → (s ≡ 1) ⊎ ((s ≡ 2) ⊎ ((s ≡ 4) ⊎ (s ≡ 8))) → StandsFor b n
    → StandsFor (scaled_bits b s) (n * s % 2 ^ 64)
scaled_stands b n s (inl e) h = by_block b (scaled_bits b s) n (n * s % 2 ^ 64) 0 64 0 (omega arith) h
    (omega (arith, ap (λ (v : ℕ). word (b.zeros * v) + (v - 1)) e)) (omega (arith, ap (λ (v : ℕ). word (b.ones * v)) e))
    (omega (arith, ap (λ (v : ℕ). n * v % 2 ^ 64) e))
scaled_stands b n s (inr (inl e)) h = by_block b (scaled_bits b s) n (n * s % 2 ^ 64) 1 63 1 (omega arith) h
    (omega (arith, ap (λ (v : ℕ). word (b.zeros * v) + (v - 1)) e)) (omega (arith, ap (λ (v : ℕ). word (b.ones * v)) e))
    (omega (arith, ap (λ (v : ℕ). n * v % 2 ^ 64) e))
scaled_stands b n s (inr (inr (inl e))) h = by_block b (scaled_bits b s) n (n * s % 2 ^ 64) 2 62 3 (omega arith) h
    (omega (arith, ap (λ (v : ℕ). word (b.zeros * v) + (v - 1)) e)) (omega (arith, ap (λ (v : ℕ). word (b.ones * v)) e))
    (omega (arith, ap (λ (v : ℕ). n * v % 2 ^ 64) e))
scaled_stands b n s (inr (inr (inr e))) h = by_block b (scaled_bits b s) n (n * s % 2 ^ 64) 3 61 7 (omega arith) h
    (omega (arith, ap (λ (v : ℕ). word (b.zeros * v) + (v - 1)) e)) (omega (arith, ap (λ (v : ℕ). word (b.ones * v)) e))
    (omega (arith, ap (λ (v : ℕ). n * v % 2 ^ 64) e))

pub scaled_covers : (b : KnownBits) (n s : ℕ) → is_scale s ≡ true → StandsFor b n
    → Covers (scaled_bits b s) (n * s % 2 ^ 64)
scaled_covers b n s e h =
    let stands = scaled_stands b n s (scales s e) h in
    record {
      valid = record {
        zeros_fit = scaled_fits b.zeros s (scales s e);
        ones_fit = omega arith;
        apart = apart_from (scaled_bits b s) (n * s % 2 ^ 64) stands;
      };
      fits = omega arith;
      stands = stands;
    }

-- ---- values

-- bits that cover a number, as a value
pub bits_represent : (d : Description) (env : ValueEnv) (b : KnownBits) (n : ℕ) → SamePlaces d env → Covers b n
    → Represents (bits_value d b) env n
bits_represent d env b n same c =
    derived_stands (stack_of d.regions) b env n c.valid c.fits c.stands (same n c.fits)

-- what represents a number of this width stands for it as an operand
pub value_stands : (env : ValueEnv) (w : Width) (v : AbsValue) (n : ℕ) → n < 2 ^ bits_of w → Represents v env n
    → StandsAt env w v n
value_stands env w v n fits r = record {
  bits = record {
    fits = fits;
    known = subst (StandsFor (bits_cut (bits_of w) v.bits)) (mod-eq_of_lt fits) (cut_sound w v.bits n r.bits);
  };
  whole = λ e. r;
}

-- the value at a width represents the number cut to it
pub width_represents : (d : Description) (env : ValueEnv) (w : Width) (v : AbsValue) (n : ℕ) → SamePlaces d env
    → n < 2 ^ 64 → Represents v env n → Represents (at_width d w v) env (cut w n)
width_represents d env Byte v n same fits r =
    bits_represent d env (bits_cut 8 v.bits) (n % 2 ^ 8) same (cut_stands Byte v.bits n r.bits)
width_represents d env Long v n same fits r =
    bits_represent d env (bits_cut 32 v.bits) (n % 2 ^ 32) same (cut_stands Long v.bits n r.bits)
width_represents d env Quad v n same fits r = subst (Represents v env) (sym (mod-eq_of_lt fits)) r

-- the bits of an operand cover it
pub operand_covers : (w : Width) (b : KnownBits) (n : ℕ) → HasBits w b n → Covers (bits_cut (bits_of w) b) n
operand_covers w b n h = cut_covers w b n h.fits h.known

-- an operand goes into a register
pub put_represents : (d : Description) (env : ValueEnv) (w : Width) (v : AbsValue) (n : ℕ) → SamePlaces d env
    → StandsAt env w v n → Represents (at_width d w v) env n
put_represents d env Byte v n same s =
    bits_represent d env (bits_cut 8 v.bits) n same (operand_covers Byte v.bits n s.bits)
put_represents d env Long v n same s =
    bits_represent d env (bits_cut 32 v.bits) n same (operand_covers Long v.bits n s.bits)
put_represents d env Quad v n same s = s.whole refl
