-- A condition that is decided is the processor's: by the codes, where both sides choose by the same tests, from the
-- connectives of three values, each by cases.
use Rattle.std.proofs.Common.{ℕ, ◌/◌, ◌%◌, ◌<◌, Bool, true, false, not, ◌||◌, ◌==◌, sym, ◌∙◌, arith}
use Rattle.std.proofs.lemmas.Bool.{or_left, or_right, not_from_true, not_from_false, eqb-true, eqb-false, eq-eqb, ne_eqb}
use Rattle.std.proofs.lemmas.Nat.Bits.{bit_at-lt}
use Rattle.std.specs.Int.{bit_at}
use Rattle.kc_bits.specs.KnownBits.{KnownBits}
use Rattle.kc_bits.specs.Bits.{StandsFor}
use Rattle.kc_space.specs.Latches.{TriStands}
use Rattle.kc_space.specs.declared.tri.Tri.{Tri}
use Rattle.kc_space.specs.declared.tri.Tri.TheVariants.{No, Yes, Any}
use Rattle.kc_state.specs.Flags.{known_flag, tri_not, tri_or, tri_differ, holds as known_holds, holds_even as known_even}
use Rattle.kc_exec.specs.RFlags.{is_set, is_less_by, holds, holds_even}
use Rattle.kc_arith.proofs.FlagLemmas.{by_test, known_flag_stands}

-- ---- connectives

pub not_stands : (t : Tri) (p : Bool) → TriStands t p → TriStands (tri_not t) (not p)
not_stands No p h = not_from_false p h
not_stands Yes p h = not_from_true p h
not_stands Any p h = tt

or_stands : (s t : Tri) (p q : Bool) → TriStands s p → TriStands t q → TriStands (tri_or s t) (p || q)
or_stands Yes t p q h k = or_left p q h
or_stands No t false q h k = k
or_stands No t true q h k = absurd cc
or_stands Any Yes p q h k = or_right p q k
or_stands Any No p q h k = tt
or_stands Any Any p q h k = tt

-- one of two bits is set and the other isn't
differ_stands : (s t : Tri) (m n : ℕ) → m < 2 → n < 2 → TriStands s (m == 1) → TriStands t (n == 1)
    → TriStands (tri_differ s t) (not (m == n))
differ_stands Any t m n hm hn h k = tt
differ_stands No No m n hm hn h k =
    not_from_true (m == n) (eq-eqb m n (omega (arith, hm, hn, eqb-false m 1 h, eqb-false n 1 k)))
differ_stands No Yes m n hm hn h k =
    not_from_false (m == n) (ne_eqb m n (λ e. eqb-false m 1 h (e ∙ eqb-true n 1 k)))
differ_stands No Any m n hm hn h k = tt
differ_stands Yes No m n hm hn h k =
    not_from_false (m == n) (ne_eqb m n (λ e. eqb-false n 1 k (sym e ∙ eqb-true m 1 h)))
differ_stands Yes Yes m n hm hn h k =
    not_from_true (m == n) (eq-eqb m n (eqb-true m 1 h ∙ sym (eqb-true n 1 k)))
differ_stands Yes Any m n hm hn h k = tt

-- ---- codes

module _ (b : KnownBits) (flags : ℕ) (s : StandsFor b flags) where
  flag_stands : (i : ℕ) → TriStands (known_flag b i) (is_set flags i)
  flag_stands i = known_flag_stands b flags i s

  less_stands : TriStands (tri_differ (known_flag b 7) (known_flag b 11)) (is_less_by flags)
  less_stands =
      differ_stands (known_flag b 7) (known_flag b 11) (bit_at flags 7) (bit_at flags 11) (bit_at-lt flags 7)
      (bit_at-lt flags 11) (flag_stands 7) (flag_stands 11)

  even_stands : (n : ℕ) → TriStands (known_even n b) (holds_even n flags)
  even_stands n =
      by_test (n == 0) _ _ _ _ (flag_stands 11) (
      by_test (n == 1) _ _ _ _ (flag_stands 0) (
      by_test (n == 2) _ _ _ _ (flag_stands 6) (
      by_test (n == 3) _ _ _ _
      (or_stands (known_flag b 0) (known_flag b 6) (is_set flags 0) (is_set flags 6) (flag_stands 0) (flag_stands 6)) (
      by_test (n == 4) _ _ _ _ (flag_stands 7) (
      by_test (n == 5) _ _ _ _ (flag_stands 2) (
      by_test (n == 6) _ _ _ _ less_stands
      (or_stands (known_flag b 6) (tri_differ (known_flag b 7) (known_flag b 11)) (is_set flags 6) (is_less_by flags)
      (flag_stands 6) less_stands)))))))

  pub holds_stands : (code : ℕ) → TriStands (known_holds code b) (holds code flags)
  holds_stands code =
      by_test (code % 2 == 0) _ _ _ _ (even_stands (code / 2))
      (not_stands (known_even (code / 2) b) (holds_even (code / 2) flags) (even_stands (code / 2)))

-- STI: the gap is open where IF was clear
pub gap_stands : (b : KnownBits) (flags : ℕ) → StandsFor b flags
    → TriStands (tri_not (known_flag b 9)) (not (is_set flags 9))
gap_stands b flags s = not_stands (known_flag b 9) (is_set flags 9) (known_flag_stands b flags 9 s)
