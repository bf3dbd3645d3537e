-- What is known of the results of sums, differences and operations on single bits covers the results, at each width.
-- Each is kc_bits' own law; a sum or a difference is then cut to the width, and the cut of a sum of 64 bits is the sum
-- at the width (kc_words). The masks of the three others fit since their operands' do.
use Rattle.std.proofs.Common.{◌≡◌, ℕ, ◌+◌, ◌-◌, ◌%◌, ◌^◌, ◌<◌, ◌≤◌, bit_and, bit_or, bit_xor, subst, arith}
use Rattle.std.proofs.lemmas.Nat.{and_le_l, or_lt, xor_lt, pow_pos, mod_below}
use Rattle.kc_words.specs.Flags.{bits_of, cut, difference}
use Rattle.kc_words.specs.declared.width.Width.{Width}
use Rattle.kc_words.proofs.FlagLemmas.{mod_of_mod, bits_in_range, difference-mod}
use Rattle.kc_bits.specs.KnownBits.{KnownBits}
use Rattle.kc_bits.specs.Bits.{word, bits_and, bits_or, bits_xor, bits_add, bits_sub, bits_cut}
use Rattle.kc_bits.proofs.Operations.{and_sound, or_sound, xor_sound}
use Rattle.kc_bits.proofs.Sums.{add_valid, add_sound, sub_sound}
use Rattle.kc_insn.specs.declared.insn.AluOp.{AluOp}
use Rattle.kc_insn.specs.declared.insn.AluOp.TheVariants as alu
use Rattle.kc_state.specs.Flags.{alu_bits}
use Rattle.kc_arith.specs.Covers.{Covers}
use Rattle.kc_arith.proofs.MarkLemmas.{apart_from}
use Rattle.kc_arith.proofs.WidthLemmas.{cut_stands, cut_fits}

-- the result at this width, also the one that CMP drops
abbrev pub outcome : AluOp → Width → ℕ → ℕ → ℕ
outcome alu.Add w x y = cut w (x + y)
outcome alu.Or w x y = bit_or x y
outcome alu.And w x y = bit_and x y
outcome alu.Sub w x y = difference (bits_of w) x y
outcome alu.Xor w x y = bit_xor x y
outcome alu.Cmp w x y = difference (bits_of w) x y

difference_fits : (n x y : ℕ) → difference n x y < 2 ^ n
difference_fits n x y = mod_below (x % 2 ^ n + (2 ^ n - y % 2 ^ n)) (2 ^ n) (pow_pos n)

pub outcome_fits : (op : AluOp) (w : Width) (x y : ℕ) → x < 2 ^ bits_of w → y < 2 ^ bits_of w
    → outcome op w x y < 2 ^ bits_of w
outcome_fits alu.Add w x y hx hy = cut_fits w (x + y)
outcome_fits alu.Or w x y hx hy = or_lt (bits_of w) x y hx hy
outcome_fits alu.And w x y hx hy = let le : bit_and x y ≤ x = and_le_l x y in omega (arith, le, hx)
outcome_fits alu.Sub w x y hx hy = difference_fits (bits_of w) x y
outcome_fits alu.Xor w x y hx hy = xor_lt (bits_of w) x y hx hy
outcome_fits alu.Cmp w x y hx hy = difference_fits (bits_of w) x y

module _ (a b : KnownBits) (x y : ℕ) (ca : Covers a x) (cb : Covers b y) where
  pub word_sum_covers : Covers (bits_add a b) (word (x + y))
  word_sum_covers = record {
    valid = add_valid a b;
    fits = mod_below (x + y) (2 ^ 64) (omega arith);
    stands = add_sound a b ca.valid cb.valid x y ca.fits cb.fits ca.stands cb.stands;
  }

  sum_covers : (w : Width) → Covers (bits_cut (bits_of w) (bits_add a b)) (cut w (x + y))
  sum_covers w =
      let low : cut w (word (x + y)) ≡ cut w (x + y) = mod_of_mod 64 (bits_of w) (x + y) (bits_in_range w).1 in
      subst (Covers (bits_cut (bits_of w) (bits_add a b))) low
      (cut_stands w (bits_add a b) (word (x + y)) word_sum_covers.stands)

  difference_covers : (w : Width) → Covers (bits_cut (bits_of w) (bits_sub a b)) (difference (bits_of w) x y)
  difference_covers w =
      let whole : ℕ = word (x + (2 ^ 64 - y)) in
      let known = sub_sound a b ca.valid cb.valid x y ca.fits cb.fits ca.stands cb.stands in
      let low : cut w whole ≡ difference (bits_of w) x y =
      difference-mod 64 (bits_of w) x y (bits_in_range w).1 cb.fits in
      subst (Covers (bits_cut (bits_of w) (bits_sub a b))) low (cut_stands w (bits_sub a b) whole known)

  pub and_covers : Covers (bits_and a b) (bit_and x y)
  and_covers =
      let stands = and_sound a b x y ca.fits cb.fits ca.stands cb.stands in
      let ones : bit_and a.ones b.ones ≤ a.ones = and_le_l a.ones b.ones in
      let number : bit_and x y ≤ x = and_le_l x y in
      record {
        valid = record {
          zeros_fit = or_lt 64 a.zeros b.zeros ca.valid.zeros_fit cb.valid.zeros_fit;
          ones_fit = omega (arith, ones, ca.valid.ones_fit);
          apart = apart_from (bits_and a b) (bit_and x y) stands;
        };
        fits = omega (arith, number, ca.fits);
        stands = stands;
      }

  pub or_covers : Covers (bits_or a b) (bit_or x y)
  or_covers =
      let stands = or_sound a b x y ca.fits cb.fits ca.stands cb.stands in
      let zeros : bit_and a.zeros b.zeros ≤ a.zeros = and_le_l a.zeros b.zeros in
      record {
        valid = record {
          zeros_fit = omega (arith, zeros, ca.valid.zeros_fit);
          ones_fit = or_lt 64 a.ones b.ones ca.valid.ones_fit cb.valid.ones_fit;
          apart = apart_from (bits_or a b) (bit_or x y) stands;
        };
        fits = or_lt 64 x y ca.fits cb.fits;
        stands = stands;
      }

  xor_covers : Covers (bits_xor a b) (bit_xor x y)
  xor_covers =
      let stands = xor_sound a b x y ca.fits cb.fits ca.stands cb.stands in
      let both_zero : bit_and a.zeros b.zeros ≤ a.zeros = and_le_l a.zeros b.zeros in
      let both_one : bit_and a.ones b.ones ≤ a.ones = and_le_l a.ones b.ones in
      let zero_one : bit_and a.zeros b.ones ≤ a.zeros = and_le_l a.zeros b.ones in
      let one_zero : bit_and a.ones b.zeros ≤ a.ones = and_le_l a.ones b.zeros in
      record {
        valid = record {
          zeros_fit =
              or_lt 64 (bit_and a.zeros b.zeros) (bit_and a.ones b.ones) (omega (arith, both_zero, ca.valid.zeros_fit))
              (omega (arith, both_one, ca.valid.ones_fit));
          ones_fit =
              or_lt 64 (bit_and a.zeros b.ones) (bit_and a.ones b.zeros) (omega (arith, zero_one, ca.valid.zeros_fit))
              (omega (arith, one_zero, ca.valid.ones_fit));
          apart = apart_from (bits_xor a b) (bit_xor x y) stands;
        };
        fits = xor_lt 64 x y ca.fits cb.fits;
        stands = stands;
      }

  pub outcome_covers : (op : AluOp) (w : Width) → Covers (alu_bits op (bits_of w) a b) (outcome op w x y)
  outcome_covers alu.Add w = sum_covers w
  outcome_covers alu.Or w = or_covers
  outcome_covers alu.And w = and_covers
  outcome_covers alu.Sub w = difference_covers w
  outcome_covers alu.Xor w = xor_covers
  outcome_covers alu.Cmp w = difference_covers w
