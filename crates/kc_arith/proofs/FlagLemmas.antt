-- The status flags by their places: bits of the sums of flags that a result has, and what is known of one flag.
-- A sum of flags is computed at each choice of its parts where there are three, and is left to omega where there are
-- six. Known zeros and ones at one place are a Tri that stands for the bit.
use Rattle.std.proofs.Common.{◌≡◌, ℕ, ◌+◌, ◌*◌, ◌%◌, ◌^◌, ◌<◌, ◌≤◌, Bool, true, false, cond, ◌==◌, bit_or, refl, ap, ◌∙◌, ◌⊎◌, inl, inr, arith}
use Rattle.std.specs.Prelude.{count_ones, if◌then◌else◌}
use Rattle.std.proofs.lemmas.Bool.{cases_eq, eqb-true, eqb-false, eq-eqb, ne_eqb}
use Rattle.std.proofs.lemmas.Nat.Bits.{bit_at_or, bit_at-lt, bit_at-zero, bit_at-pow_same, bit_at-pow_other}
use Rattle.std.specs.Int.{bit_at}
use Rattle.kc_words.specs.Flags.{sign, carries, borrows, overflows, difference, flag, result_flags, sum_flags, difference_flags}
use Rattle.kc_bits.specs.KnownBits.{KnownBits}
use Rattle.kc_bits.specs.Bits.{StandsFor}
use Rattle.kc_space.specs.Latches.{TriStands}
use Rattle.kc_space.specs.declared.tri.Tri.{Tri}
use Rattle.kc_space.specs.declared.tri.Tri.TheVariants.{No, Yes, Any}
use Rattle.kc_state.specs.Flags.{marked, clear_flag, cf_and_of, known_flag, with_tri}
use Rattle.kc_exec.specs.RFlags.{is_set}
use Rattle.kc_arith.specs.Covers.{Covers}
use Rattle.kc_arith.proofs.MarkLemmas.{marked_stands, marked_valid}

-- ---- sums of flags

-- 1 where it is set
abbrev pub one_if : Bool → ℕ
one_if b = cond b 1 0

one_if-le : (b : Bool) → one_if b ≤ 1
one_if-le true = omega arith
one_if-le false = omega arith

flag-is : (place : ℕ) (b : Bool) → flag place b ≡ one_if b * 2 ^ place
flag-is place true = omega arith
flag-is place false = omega arith

-- the flags PF, ZF and SF, and no other one
pub record ResultBits (n : ℕ) (zero negative : Bool) : Type 0 where
  pub cf : bit_at n 0 ≡ 0
  pub zf : bit_at n 6 ≡ one_if zero
  pub sf : bit_at n 7 ≡ one_if negative
  pub of : bit_at n 11 ≡ 0
  pub fits : n < 2 ^ 64

three : (p z s : Bool) → ResultBits (flag 2 p + flag 6 z + flag 7 s) z s
three p z s =
    let fp : flag 2 p ≡ one_if p * 4 = flag-is 2 p in
    let fz : flag 6 z ≡ one_if z * 64 = flag-is 6 z in
    let fs : flag 7 s ≡ one_if s * 128 = flag-is 7 s in
    record {
      cf = omega (arith, fp, fz, fs, one_if-le p, one_if-le z, one_if-le s);
      zf = omega (arith, fp, fz, fs, one_if-le p, one_if-le z, one_if-le s);
      sf = omega (arith, fp, fz, fs, one_if-le p, one_if-le z, one_if-le s);
      of = omega (arith, fp, fz, fs, one_if-le p, one_if-le z, one_if-le s);
      fits = omega (arith, fp, fz, fs, one_if-le p, one_if-le z, one_if-le s);
    }

pub result_bits : (n r : ℕ) → ResultBits (result_flags n r) (r % 2 ^ n == 0) (sign n r == 1)
result_bits n r = three (count_ones (r % 256) % 2 == 0) (r % 2 ^ n == 0) (sign n r == 1)

-- ZF and SF among all six
pub record StatusBits (n : ℕ) (zero negative : Bool) : Type 0 where
  pub zf : bit_at n 6 ≡ one_if zero
  pub sf : bit_at n 7 ≡ one_if negative
  pub fits : n < 2 ^ 64

six : (c a o p z s : Bool) → StatusBits (flag 0 c + flag 4 a + flag 11 o + (flag 2 p + flag 6 z + flag 7 s)) z s
six c a o p z s =
    let fc : flag 0 c ≡ one_if c * 1 = flag-is 0 c in
    let fa : flag 4 a ≡ one_if a * 16 = flag-is 4 a in
    let fo : flag 11 o ≡ one_if o * 2048 = flag-is 11 o in
    let fp : flag 2 p ≡ one_if p * 4 = flag-is 2 p in
    let fz : flag 6 z ≡ one_if z * 64 = flag-is 6 z in
    let fs : flag 7 s ≡ one_if s * 128 = flag-is 7 s in
    record {
      zf = omega (
        arith,
        fc,
        fa,
        fo,
        fp,
        fz,
        fs,
        one_if-le c,
        one_if-le a,
        one_if-le o,
        one_if-le p,
        one_if-le z,
        one_if-le s,
      );
      sf = omega (
        arith,
        fc,
        fa,
        fo,
        fp,
        fz,
        fs,
        one_if-le c,
        one_if-le a,
        one_if-le o,
        one_if-le p,
        one_if-le z,
        one_if-le s,
      );
      fits = omega (
        arith,
        fc,
        fa,
        fo,
        fp,
        fz,
        fs,
        one_if-le c,
        one_if-le a,
        one_if-le o,
        one_if-le p,
        one_if-le z,
        one_if-le s,
      );
    }

pub sum_bits : (n a b : ℕ) → StatusBits (sum_flags n a b) ((a + b) % 2 ^ n == 0) (sign n (a + b) == 1)
sum_bits n a b =
    six (carries n a b) (carries 4 a b) (overflows n a b (a + b)) (count_ones ((a + b) % 256) % 2 == 0)
    ((a + b) % 2 ^ n == 0) (sign n (a + b) == 1)

pub difference_bits : (n a b : ℕ)
    → StatusBits (difference_flags n a b) (difference n a b % 2 ^ n == 0) (sign n (difference n a b) == 1)
difference_bits n a b =
    six (borrows n a b) (borrows 4 a b) (overflows n b (difference n a b) a)
    (count_ones (difference n a b % 256) % 2 == 0) (difference n a b % 2 ^ n == 0) (sign n (difference n a b) == 1)

-- ---- one known flag

-- two choices by one test
pub by_test : (test : Bool) (s t : Tri) (p q : Bool) → TriStands s p → TriStands t q
    → TriStands (if◌then◌else◌ {A = Tri} test s t) (if◌then◌else◌ {A = Bool} test p q)
by_test true s t p q h k = h
by_test false s t p q h k = k

-- Yes, No or Any by two tests
by_tests : (one zero p : Bool) → (one ≡ true → p ≡ true) → (zero ≡ true → p ≡ false)
    → TriStands (if◌then◌else◌ {A = Tri} one Yes (if◌then◌else◌ {A = Tri} zero No Any)) p
by_tests true zero p h k = h refl
by_tests false true p h k = k refl
by_tests false false p h k = tt

pub known_flag_stands : (b : KnownBits) (n i : ℕ) → StandsFor b n → TriStands (known_flag b i) (is_set n i)
known_flag_stands b n i s =
    by_tests (bit_at b.ones i == 1) (bit_at b.zeros i == 1) (is_set n i)
    (λ e. eq-eqb (bit_at n i) 1 ((s i).1 (eqb-true (bit_at b.ones i) 1 e)))
    (λ e.
    ne_eqb (bit_at n i) 1 (λ one. absurd (omega (arith, one, (s i).0 (eqb-true (bit_at b.zeros i) 1 e)))))

-- the bit as a test
pub is_set-one_if : (n i : ℕ) (p : Bool) → bit_at n i ≡ one_if p → is_set n i ≡ p
is_set-one_if n i true e = eq-eqb (bit_at n i) 1 e
is_set-one_if n i false e = ne_eqb (bit_at n i) 1 (λ one. absurd (omega (arith, one, e)))

-- a flag that is clear
clear_bit : (n i : ℕ) → is_set n i ≡ false → bit_at n i ≡ 0
clear_bit n i e = omega (arith, eqb-false (bit_at n i) 1 e, bit_at-lt n i)

-- a mask of one flag, at each place
one_place : (k i : ℕ) → ((i ≡ k) × (bit_at (2 ^ k) i ≡ 1)) ⊎ (bit_at (2 ^ k) i ≡ 0)
one_place k i = elim (cases_eq i k) [
  | inl e ↦ inl (e, ap (bit_at (2 ^ k)) e ∙ bit_at-pow_same k)
  | inr e ↦ inr (bit_at-pow_other k i e)
]

-- flags that are given of the same number
given_covers : (b : KnownBits) (forget ones zeros n : ℕ) → forget < 2 ^ 64 → ones < 2 ^ 64 → zeros < 2 ^ 64
    → ((i : ℕ) → bit_at ones i ≤ bit_at n i) → ((i : ℕ) → bit_at zeros i + bit_at n i ≤ 1) → Covers b n
    → Covers (marked b forget ones zeros) n
given_covers b forget ones zeros n forget_fits ones_fit zeros_fit one zero c =
    let stands = marked_stands b forget ones zeros n n forget_fits c.stands (λ i j e. refl) one zero in
    record {
      valid = marked_valid b forget ones zeros n ones_fit zeros_fit stands;
      fits = c.fits;
      stands = stands;
    }

none_above : (n i : ℕ) → bit_at 0 i + bit_at n i ≤ 1
none_above n i = omega (arith, bit_at-zero i, bit_at-lt n i)

none_below : (n i : ℕ) → bit_at 0 i ≤ bit_at n i
none_below n i = omega (arith, bit_at-zero i)

-- one more flag as far as it is known
pub with_tri_covers : (k : ℕ) (t : Tri) (b : KnownBits) (n : ℕ) → 2 ^ k < 2 ^ 64 → TriStands t (is_set n k)
    → Covers b n → Covers (with_tri (2 ^ k) t b) n
with_tri_covers k Yes b n fits t c =
    given_covers b (2 ^ k) (2 ^ k) 0 n fits fits (omega arith) one (none_above n) c
  where
    one : (i : ℕ) → bit_at (2 ^ k) i ≤ bit_at n i
    one i = elim (one_place k i) [
      | inl h ↦ omega (arith, h.1, ap (bit_at n) h.0, eqb-true (bit_at n k) 1 t)
      | inr e ↦ omega (arith, e)
    ]
with_tri_covers k No b n fits t c =
    given_covers b (2 ^ k) 0 (2 ^ k) n fits (omega arith) fits (none_below n) zero c
  where
    zero : (i : ℕ) → bit_at (2 ^ k) i + bit_at n i ≤ 1
    zero i = elim (one_place k i) [
      | inl h ↦ omega (arith, h.1, ap (bit_at n) h.0, clear_bit n k t)
      | inr e ↦ omega (arith, e, bit_at-lt n i)
    ]
with_tri_covers k Any b n fits t c = c

-- CF and OF are clear
pub carry_and_overflow_clear : (b : KnownBits) (n : ℕ) → bit_at n 0 ≡ 0 → bit_at n 11 ≡ 0 → Covers b n
    → Covers (clear_flag cf_and_of b) n
carry_and_overflow_clear b n cf of c =
    given_covers b cf_and_of 0 cf_and_of n (omega arith) (omega arith) (omega arith) (none_below n) zero c
  where
    zero : (i : ℕ) → bit_at (bit_or (2 ^ 0) (2 ^ 11)) i + bit_at n i ≤ 1
    zero i =
        let first : bit_at (2 ^ 0) i + bit_at n i ≤ 1 = elim (one_place 0 i) [
          | inl h ↦ omega (arith, h.1, ap (bit_at n) h.0, cf)
          | inr e ↦ omega (arith, e, bit_at-lt n i)
        ] in
        let last : bit_at (2 ^ 11) i + bit_at n i ≤ 1 = elim (one_place 11 i) [
          | inl h ↦ omega (arith, h.1, ap (bit_at n) h.0, of)
          | inr e ↦ omega (arith, e, bit_at-lt n i)
        ] in
        omega (arith, bit_at_or (2 ^ 0) (2 ^ 11) i, first, last)
