-- Bit tests: CF becomes the operand's bit as far as it is known, and the operand with the bit set or reset is covered.
-- The flags are those of arithmetic with CF alone defined; the operands are a disjunction and a conjunction with a word
-- of which all is known.
use Rattle.std.proofs.Common.{◌≡◌, ℕ, ◌-◌, ◌^◌, ◌<◌, ◌≤◌, ◌==◌, bit_and, bit_or, refl, sym, ap, ◌∙◌, subst, arith}
use Rattle.std.proofs.lemmas.Nat.{and_le_l, and_le_r, or_lt, pow_below}
use Rattle.std.proofs.lemmas.Nat.Bits.{bit_at_lowest, bit_at-lt}
use Rattle.std.specs.Int.{bit_at, bit_not, w64}
use Rattle.kc_words.specs.Flags.{bits_of}
use Rattle.kc_words.specs.declared.width.Width.{Width}
use Rattle.kc_bits.specs.KnownBits.{KnownBits}
use Rattle.kc_bits.specs.Bits.{StandsFor, flipped, all_of, bits_and, bits_or, bits_cut}
use Rattle.kc_bits.specs.BitsLaws.{Has}
use Rattle.kc_bits.proofs.Whole.{all_apart, all_stands}
use Rattle.kc_space.specs.Latches.{TriStands}
use Rattle.kc_state.specs.Flags.{status, zf, known_flag, forgotten, bit_flags as known_bit_flags}
use Rattle.kc_exec.specs.RFlags.{replaced, is_set}
use Rattle.kc_exec.specs.Effect.{bit_flags}
use Rattle.kc_arith.specs.Covers.{Covers, CoversOperand, HasBits}
use Rattle.kc_arith.proofs.MarkLemmas.{defined_bit, flags_replaced}
use Rattle.kc_arith.proofs.WidthLemmas.{below_word, operand_covers}
use Rattle.kc_arith.proofs.FlagLemmas.{known_flag_stands, with_tri_covers}
use Rattle.kc_arith.proofs.ResultLemmas.{and_covers, or_covers}

-- ---- CF

has_none : (z : ℕ) → Has z 0
has_none z = let le : bit_and z 0 ≤ 0 = and_le_r z 0 in omega (arith, le)

-- CF afterwards is the bit
carry_is : (x i f : ℕ) → is_set (replaced 1 (bit_at x i) f) 0 ≡ is_set x i
carry_is x i f =
    let lowest : bit_at (bit_at x i) 0 ≡ bit_at x i = bit_at_lowest (bit_at x i) ∙ omega (arith, bit_at-lt x i) in
    ap (λ (v : ℕ). v == 1) (defined_bit 1 (bit_at x i) f 0 (omega arith) (omega arith) refl ∙ lowest)

forgotten_covers : (b : KnownBits) (x i f : ℕ) → StandsFor b f
    → Covers (forgotten b (status - zf)) (replaced 1 (bit_at x i) f)
forgotten_covers b x i f s =
    flags_replaced b (status - zf) 0 0 1 (bit_at x i) f
    (record {
      forget_fits = omega arith;
      defined_fits = omega arith;
      new_fits = omega (arith, bit_at-lt x i);
      forgets = refl;
      ones_given = has_none (bit_and (bit_at x i) 1);
      zeros_given = has_none (bit_and (flipped (bit_at x i)) 1);
    }) s

pub bit_flags_cover : (i : ℕ) (a known : KnownBits) (x f : ℕ) → StandsFor a x → StandsFor known f
    → Covers (known_bit_flags i a known) (bit_flags i x f)
bit_flags_cover i a known x f sa s =
    with_tri_covers 0 (known_flag a i) (forgotten known (status - zf)) (replaced 1 (bit_at x i) f) (omega arith)
    (subst (TriStands (known_flag a i)) (sym (carry_is x i f)) (known_flag_stands a x i sa))
    (forgotten_covers known x i f s)

-- ---- the operand

-- all of a word
pub all_covers : (n : ℕ) → n < 2 ^ 64 → Covers (all_of n) n
all_covers n fits = record {
  valid = record { zeros_fit = omega arith; ones_fit = fits; apart = all_apart n fits };
  fits = fits;
  stands = all_stands n fits;
}

bit_fits : (w : Width) (i : ℕ) → i < bits_of w → 2 ^ i < 2 ^ bits_of w
bit_fits w i h = pow_below i (bits_of w) h

pub set_covers : (w : Width) (b : KnownBits) (x i : ℕ) → i < bits_of w → HasBits w b x
    → CoversOperand w (bits_or (bits_cut (bits_of w) b) (all_of (2 ^ i))) (bit_or x (2 ^ i))
set_covers w b x i h known = record {
  fits = or_lt (bits_of w) x (2 ^ i) known.fits (bit_fits w i h);
  covers =
      or_covers (bits_cut (bits_of w) b) (all_of (2 ^ i)) x (2 ^ i) (operand_covers w b x known)
      (all_covers (2 ^ i) (below_word w (2 ^ i) (bit_fits w i h)));
}

pub reset_covers : (w : Width) (b : KnownBits) (x i : ℕ) → HasBits w b x
    → CoversOperand w (bits_and (bits_cut (bits_of w) b) (all_of (flipped (2 ^ i)))) (bit_and x (bit_not w64 (2 ^ i)))
reset_covers w b x i known =
    let le : bit_and x (flipped (2 ^ i)) ≤ x = and_le_l x (flipped (2 ^ i)) in
    record {
      fits = omega (arith, le, known.fits);
      covers =
          and_covers (bits_cut (bits_of w) b) (all_of (flipped (2 ^ i))) x (flipped (2 ^ i))
          (operand_covers w b x known) (all_covers (flipped (2 ^ i)) (omega arith));
    }
