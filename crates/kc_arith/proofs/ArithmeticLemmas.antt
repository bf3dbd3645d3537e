-- What is known of the flags after arithmetic covers the flags, at each width.
-- Where both operands are known they are the processor's, and the flags of its result are given. Else ZF and SF are
-- given as far as the result is known, and CF and OF where the operation is on single bits: `given_covers` three times
-- over flags of which the status is forgotten. AF is kept by the processor where it isn't defined, and forgotten here.
use Rattle.std.proofs.Common.{◌≡◌, ℕ, ◌+◌, ◌-◌, ◌%◌, ◌^◌, ◌<◌, ◌≤◌, Bool, true, false, cond, not, ◌&&◌, ◌==◌, bit_and, bit_or, bit_xor, refl, sym, ap, ◌∙◌, subst, inl, inr, arith, Option, Some, None}
use Rattle.std.specs.Prelude.{if◌then◌else◌, IfSome}
use Rattle.std.proofs.lemmas.Bool.{false≢true, cases_Bool, and_parts, and_right, not-true, not_from_true, le-ltb, eqb-true, eqb-false, eq-eqb, ne_eqb}
use Rattle.std.proofs.lemmas.Nat.{and_le_r}
use Rattle.std.proofs.lemmas.Nat.Bits.{same_from_bits, bit_at_and, bit_at_or, bit_at_xor, bit_at-zero}
use Rattle.std.proofs.Math.Nat.{mod-eq_of_lt}
use Rattle.std.specs.Int.{bit_at}
use Rattle.kc_words.specs.Flags.{bits_of, sign, borrows, overflows, flag, difference, result_flags, sum_flags, difference_flags}
use Rattle.kc_words.specs.declared.width.Width.{Width}
use Rattle.kc_words.specs.declared.width.Width.TheVariants.{Byte, Long, Quad}
use Rattle.kc_words.proofs.FlagLemmas.{bit_at-mod}
use Rattle.kc_bits.specs.KnownBits.{KnownBits}
use Rattle.kc_bits.specs.Bits.{StandsFor, flipped, unknown, bits_single, bits_cut}
use Rattle.kc_bits.specs.BitsLaws.{Has, and_self}
use Rattle.kc_bits.proofs.Whole.{known_only}
use Rattle.kc_insn.specs.declared.insn.AluOp.{AluOp}
use Rattle.kc_insn.specs.declared.insn.AluOp.TheVariants as alu
use Rattle.kc_space.specs.Latches.{TriStands}
use Rattle.kc_space.specs.declared.tri.Tri.{Tri}
use Rattle.kc_space.specs.declared.tri.Tri.TheVariants.{No, Yes, Any}
use Rattle.kc_state.specs.Flags.{status, logic_status, alu_bits, is_difference, is_logic, differ, is_known_zero, known_zf, known_sf, known_flags, forgotten, clear_flag, cf_and_of, exact_flags, exact_alu, alu_flags_by, alu_flags as known_flags_after}
use Rattle.kc_state.specs.AbsEffect.{cancels}
use Rattle.kc_exec.specs.RFlags.{replaced}
use Rattle.kc_exec.specs.Effect.{alu_flags, alu_result}
use Rattle.kc_arith.specs.Covers.{Covers, CoversOperand, HasBits}
use Rattle.kc_arith.proofs.MarkLemmas.{known_at, defined_bit, flags_replaced}
use Rattle.kc_arith.proofs.WidthLemmas.{operand_covers}
use Rattle.kc_arith.proofs.FlagLemmas.{one_if, StatusBits, result_bits, sum_bits, difference_bits, known_flag_stands, is_set-one_if, with_tri_covers, carry_and_overflow_clear}
use Rattle.kc_arith.proofs.ResultLemmas.{outcome, outcome_fits, outcome_covers}

-- ---- the processor's flags

-- which flags the operation defines, and what it makes them
abbrev pub defined_by : AluOp → ℕ
defined_by op = cond (is_logic op) logic_status status

abbrev pub flags_of : AluOp → Width → ℕ → ℕ → ℕ
flags_of alu.Add w x y = sum_flags (bits_of w) x y
flags_of alu.Or w x y = result_flags (bits_of w) (bit_or x y)
flags_of alu.And w x y = result_flags (bits_of w) (bit_and x y)
flags_of alu.Sub w x y = difference_flags (bits_of w) x y
flags_of alu.Xor w x y = result_flags (bits_of w) (bit_xor x y)
flags_of alu.Cmp w x y = difference_flags (bits_of w) x y

pub alu_flags-replaced : (op : AluOp) (w : Width) (x y f : ℕ)
    → alu_flags op w x y f ≡ replaced (defined_by op) (flags_of op w x y) f
alu_flags-replaced alu.Add w x y f = refl
alu_flags-replaced alu.Or w x y f = refl
alu_flags-replaced alu.And w x y f = refl
alu_flags-replaced alu.Sub w x y f = refl
alu_flags-replaced alu.Xor w x y f = refl
alu_flags-replaced alu.Cmp w x y f = refl

-- ZF and SF speak of the result, also of one that is dropped
of_result : (w : Width) (r : ℕ) → r < 2 ^ bits_of w
    → StatusBits (result_flags (bits_of w) r) (r == 0) (sign (bits_of w) r == 1)
of_result w r fits =
    let b = result_bits (bits_of w) r in
    record {
      zf = b.zf ∙ ap (λ (v : ℕ). one_if (v == 0)) (mod-eq_of_lt fits);
      sf = b.sf;
      fits = b.fits;
    }

of_sum : (w : Width) (x y : ℕ) → StatusBits (sum_flags (bits_of w) x y) (outcome alu.Add w x y == 0)
    (sign (bits_of w) (outcome alu.Add w x y) == 1)
of_sum w x y =
    let b = sum_bits (bits_of w) x y in
    let top = bit_at-mod (x + y) (bits_of w) (bits_of w - 1) (last w) in
    record { zf = b.zf; sf = b.sf ∙ ap (λ (v : ℕ). one_if (v == 1)) (sym top); fits = b.fits }
  where
    last : (w : Width) → bits_of w - 1 < bits_of w
    last Byte = omega arith
    last Long = omega arith
    last Quad = omega arith

of_difference : (w : Width) (x y : ℕ) → difference (bits_of w) x y < 2 ^ bits_of w
    → StatusBits (difference_flags (bits_of w) x y) (difference (bits_of w) x y == 0)
    (sign (bits_of w) (difference (bits_of w) x y) == 1)
of_difference w x y fits =
    let b = difference_bits (bits_of w) x y in
    record {
      zf = b.zf ∙ ap (λ (v : ℕ). one_if (v == 0)) (mod-eq_of_lt fits);
      sf = b.sf;
      fits = b.fits;
    }

flags_speak : (op : AluOp) (w : Width) (x y : ℕ) → outcome op w x y < 2 ^ bits_of w
    → StatusBits (flags_of op w x y) (outcome op w x y == 0) (sign (bits_of w) (outcome op w x y) == 1)
flags_speak alu.Add w x y fits = of_sum w x y
flags_speak alu.Or w x y fits = of_result w (bit_or x y) fits
flags_speak alu.And w x y fits = of_result w (bit_and x y) fits
flags_speak alu.Sub w x y fits = of_difference w x y fits
flags_speak alu.Xor w x y fits = of_result w (bit_xor x y) fits
flags_speak alu.Cmp w x y fits = of_difference w x y fits

-- an operation on single bits clears CF and OF
logic_bits : (op : AluOp) (w : Width) (x y : ℕ) → is_logic op ≡ true
    → (bit_at (flags_of op w x y) 0 ≡ 0) × (bit_at (flags_of op w x y) 11 ≡ 0)
logic_bits alu.Add w x y e = absurd (false≢true e)
logic_bits alu.Or w x y e = let b = result_bits (bits_of w) (bit_or x y) in (b.cf, b.of)
logic_bits alu.And w x y e = let b = result_bits (bits_of w) (bit_and x y) in (b.cf, b.of)
logic_bits alu.Sub w x y e = absurd (false≢true e)
logic_bits alu.Xor w x y e = let b = result_bits (bits_of w) (bit_xor x y) in (b.cf, b.of)
logic_bits alu.Cmp w x y e = absurd (false≢true e)

-- both masks of defined flags: they have CF, ZF, SF and OF, and are among those that are forgotten
pub record Defines (mask : ℕ) : Type 0 where
  pub fits : mask < 2 ^ 64
  pub cf : bit_at mask 0 ≡ 1
  pub zf : bit_at mask 6 ≡ 1
  pub sf : bit_at mask 7 ≡ 1
  pub of : bit_at mask 11 ≡ 1
  pub forgets : Has status mask

pub defines : (op : AluOp) → Defines (defined_by op)
defines op = both (is_logic op)
  where
    both : (logic : Bool) → Defines (cond logic logic_status status)
    both true = record { fits = omega arith; cf = refl; zf = refl; sf = refl; of = refl; forgets = refl }
    both false = record { fits = omega arith; cf = refl; zf = refl; sf = refl; of = refl; forgets = refl }

-- ---- both operands are known

-- the number, where all bits are known
pub single_is : (b : KnownBits) (n m : ℕ) → Covers b n → bits_single b ≡ Some m → n ≡ m
single_is b n m c e = elim (cases_Bool (unknown b == 0)) [
  | inl h ↦
      let here : Some b.ones ≡ Some m = sym (ap (λ (t : Bool). cond t (Some b.ones) None) h) ∙ e in
      let same : b.ones ≡ m = cc in
      known_only b n c.valid c.fits (eqb-true (unknown b) 0 h) c.stands ∙ same
  | inr h ↦
      let here : ◌≡◌ {A = Option ℕ} None (Some m) = sym (ap (λ (t : Bool). cond t (Some b.ones) None) h) ∙ e in
      absurd cc
]

exact_covers : (b : KnownBits) (defined new f : ℕ) → defined < 2 ^ 64 → new < 2 ^ 64 → Has status defined
    → StandsFor b f → Covers (exact_flags b defined new) (replaced defined new f)
exact_covers b defined new f defined_fits new_fits forgets s =
    flags_replaced b status (bit_and new defined) (bit_and (flipped new) defined) defined new f
    (record {
      forget_fits = omega arith;
      defined_fits = defined_fits;
      new_fits = new_fits;
      forgets = forgets;
      ones_given = and_self (bit_and new defined);
      zeros_given = and_self (bit_and (flipped new) defined);
    }) s

exact_alu-is : (op : AluOp) (w : Width) (x y : ℕ) (b : KnownBits)
    → exact_alu op (bits_of w) x y b ≡ exact_flags b (defined_by op) (flags_of op w x y)
exact_alu-is alu.Add w x y b = refl
exact_alu-is alu.Or w x y b = refl
exact_alu-is alu.And w x y b = refl
exact_alu-is alu.Sub w x y b = refl
exact_alu-is alu.Xor w x y b = refl
exact_alu-is alu.Cmp w x y b = refl

-- ---- an operand isn't known

-- the three tests of ZF
by_three : (first second third p : Bool) → (first ≡ true → p ≡ true) → (second ≡ true → p ≡ false)
    → (third ≡ true → p ≡ false)
    → TriStands (if◌then◌else◌ {A = Tri} first Yes
    (if◌then◌else◌ {A = Tri} second No (if◌then◌else◌ {A = Tri} third No Any))) p
by_three true second third p h k l = h refl
by_three false true third p h k l = k refl
by_three false false true p h k l = l refl
by_three false false false p h k l = tt

known_zero : (known : Option ℕ) → is_known_zero known ≡ true → known ≡ Some 0
known_zero (Some n) e = ap Some (eqb-true n 0 e)
known_zero None e = absurd (false≢true e)

-- 0 has no known one
ones_of_zero : (b : KnownBits) → StandsFor b 0 → b.ones ≡ 0
ones_of_zero b s = same_from_bits b.ones 0 (λ i. omega (arith, (known_at b 0 i s).1, bit_at-zero i))

-- numbers that are one don't differ in a known bit
alike : (a b : KnownBits) (x y : ℕ) → StandsFor a x → StandsFor b y → x ≡ y → differ a b ≡ false
alike a b x y s t e = ap (λ (v : ℕ). not (v == 0)) none
  where
    none : bit_or (bit_and a.zeros b.ones) (bit_and a.ones b.zeros) ≡ 0
    none = same_from_bits (bit_or (bit_and a.zeros b.ones) (bit_and a.ones b.zeros)) 0 (λ i.
        let first = known_at a x i s in
        let second = known_at b y i t in
        bit_at_or (bit_and a.zeros b.ones) (bit_and a.ones b.zeros) i
        ∙ omega (
          arith,
          bit_at_and a.zeros b.ones i,
          bit_at_and a.ones b.zeros i,
          ap (λ (v : ℕ). bit_at v i) e,
          first.0,
          first.1,
          second.0,
          second.1,
          bit_at-zero i,
        ))

-- a difference of 0 is one of equal numbers
equal_of_difference : (w : Width) (x y : ℕ) → x < 2 ^ bits_of w → y < 2 ^ bits_of w → difference (bits_of w) x y ≡ 0
    → x ≡ y
equal_of_difference Byte x y hx hy e = omega (arith, hx, hy, e)
equal_of_difference Long x y hx hy e = omega (arith, hx, hy, e)
equal_of_difference Quad x y hx hy e = omega (arith, hx, hy, e)

outcome-difference : (op : AluOp) (w : Width) (x y : ℕ) → is_difference op ≡ true
    → outcome op w x y ≡ difference (bits_of w) x y
outcome-difference alu.Add w x y e = absurd (false≢true e)
outcome-difference alu.Or w x y e = absurd (false≢true e)
outcome-difference alu.And w x y e = absurd (false≢true e)
outcome-difference alu.Sub w x y e = refl
outcome-difference alu.Xor w x y e = absurd (false≢true e)
outcome-difference alu.Cmp w x y e = refl

module _ (op : AluOp) (w : Width) (a b flags : KnownBits) (x y f : ℕ) (ca : Covers a x) (cb : Covers b y)
    (hx : x < 2 ^ bits_of w) (hy : y < 2 ^ bits_of w) (s : StandsFor flags f) where
  covered : Covers (alu_bits op (bits_of w) a b) (outcome op w x y)
  covered = outcome_covers a b x y ca cb op w

  zf_stands : TriStands (known_zf op a b (alu_bits op (bits_of w) a b)) (outcome op w x y == 0)
  zf_stands =
      by_three (is_known_zero (bits_single (alu_bits op (bits_of w) a b)))
      (not ((alu_bits op (bits_of w) a b).ones == 0)) (is_difference op && differ a b) (outcome op w x y == 0)
      (λ e.
      eq-eqb (outcome op w x y) 0 (single_is (alu_bits op (bits_of w) a b) (outcome op w x y) 0 covered
      (known_zero (bits_single (alu_bits op (bits_of w) a b)) e)))
      (λ e. ne_eqb (outcome op w x y) 0 (λ zero. eqb-false (alu_bits op (bits_of w) a b).ones 0
      (not-true ((alu_bits op (bits_of w) a b).ones == 0) e)
      (ones_of_zero (alu_bits op (bits_of w) a b)
      (subst (StandsFor (alu_bits op (bits_of w) a b)) zero covered.stands))))
      (λ e. ne_eqb (outcome op w x y) 0 (λ zero.
      let parts = and_parts (is_difference op) (differ a b) e in
      let same = equal_of_difference w x y hx hy (sym (outcome-difference op w x y parts.0) ∙ zero) in
      absurd (false≢true (sym (alike a b x y ca.stands cb.stands same) ∙ parts.1))))

  spoken : StatusBits (flags_of op w x y) (outcome op w x y == 0) (sign (bits_of w) (outcome op w x y) == 1)
  spoken = flags_speak op w x y (outcome_fits op w x y hx hy)

  -- the flags afterwards, of which the status was forgotten
  forgotten_covers : Covers (forgotten flags status) (replaced (defined_by op) (flags_of op w x y) f)
  forgotten_covers =
      flags_replaced flags status 0 0 (defined_by op) (flags_of op w x y) f
      (record {
        forget_fits = omega arith;
        defined_fits = (defines op).fits;
        new_fits = spoken.fits;
        forgets = (defines op).forgets;
        ones_given = has_none (bit_and (flags_of op w x y) (defined_by op));
        zeros_given = has_none (bit_and (flipped (flags_of op w x y)) (defined_by op));
      }) s
    where
      has_none : (z : ℕ) → Has z 0
      has_none z = let le : bit_and z 0 ≤ 0 = and_le_r z 0 in omega (arith, le)

  flag_after : (i : ℕ) → i < 64 → bit_at (defined_by op) i ≡ 1
      → bit_at (replaced (defined_by op) (flags_of op w x y) f) i ≡ bit_at (flags_of op w x y) i
  flag_after i k e = defined_bit (defined_by op) (flags_of op w x y) f i (defines op).fits k e

  logic_covers : (logic : Bool) → is_logic op ≡ logic
      → Covers (cond logic (clear_flag cf_and_of (forgotten flags status)) (forgotten flags status))
      (replaced (defined_by op) (flags_of op w x y) f)
  logic_covers true e =
      let new = logic_bits op w x y e in
      carry_and_overflow_clear (forgotten flags status) (replaced (defined_by op) (flags_of op w x y) f)
      (flag_after 0 (omega arith) (defines op).cf ∙ new.0) (flag_after 11 (omega arith) (defines op).of ∙ new.1)
      forgotten_covers
  logic_covers false e = forgotten_covers

  known_covers : Covers (known_flags op (bits_of w) a b flags) (replaced (defined_by op) (flags_of op w x y) f)
  known_covers =
      with_tri_covers 6 (known_zf op a b (alu_bits op (bits_of w) a b)) _
      (replaced (defined_by op) (flags_of op w x y) f) (omega arith)
      (subst (TriStands (known_zf op a b (alu_bits op (bits_of w) a b)))
      (sym (is_set-one_if (replaced (defined_by op) (flags_of op w x y) f) 6 (outcome op w x y == 0)
      (flag_after 6 (omega arith) (defines op).zf ∙ spoken.zf))) zf_stands)
      (with_tri_covers 7 (known_sf (bits_of w) (alu_bits op (bits_of w) a b)) _
      (replaced (defined_by op) (flags_of op w x y) f) (omega arith)
      (subst (TriStands (known_sf (bits_of w) (alu_bits op (bits_of w) a b)))
      (sym (is_set-one_if (replaced (defined_by op) (flags_of op w x y) f) 7
      (sign (bits_of w) (outcome op w x y) == 1) (flag_after 7 (omega arith) (defines op).sf ∙ spoken.sf)))
      (known_flag_stands (alu_bits op (bits_of w) a b) (outcome op w x y) (bits_of w - 1) covered.stands))
      (logic_covers (is_logic op) refl))

  exact_alu_covers : (i j : ℕ) → x ≡ i → y ≡ j
      → Covers (exact_alu op (bits_of w) i j flags) (replaced (defined_by op) (flags_of op w x y) f)
  exact_alu_covers i j ei ej =
      let here : Covers (exact_alu op (bits_of w) x y flags) (replaced (defined_by op) (flags_of op w x y) f) =
      subst (λ (k : KnownBits). Covers k (replaced (defined_by op) (flags_of op w x y) f))
      (sym (exact_alu-is op w x y flags))
      (exact_covers flags (defined_by op) (flags_of op w x y) f (defines op).fits spoken.fits (defines op).forgets s) in
      subst
      (λ (k : ℕ). Covers (exact_alu op (bits_of w) i k flags) (replaced (defined_by op) (flags_of op w x y) f)) ej
      (subst
      (λ (k : ℕ). Covers (exact_alu op (bits_of w) k y flags) (replaced (defined_by op) (flags_of op w x y) f)) ei
      here)

  by_known : (first second : Option ℕ) → ((i : ℕ) → first ≡ Some i → x ≡ i) → ((j : ℕ) → second ≡ Some j → y ≡ j)
      → Covers (alu_flags_by op (bits_of w) a b flags first second) (replaced (defined_by op) (flags_of op w x y) f)
  by_known (Some i) (Some j) h k = exact_alu_covers i j (h i refl) (k j refl)
  by_known (Some i) None h k = known_covers
  by_known None (Some j) h k = known_covers
  by_known None None h k = known_covers

  pub flags_cover : Covers (known_flags_after op (bits_of w) a b flags) (alu_flags op w x y f)
  flags_cover =
      subst (Covers (known_flags_after op (bits_of w) a b flags)) (sym (alu_flags-replaced op w x y f))
      (by_known (bits_single a) (bits_single b) (λ i e. single_is a x i ca e) (λ j e. single_is b y j cb e))

-- ---- operands

pub operation_covers : (op : AluOp) (w : Width) (a b flags : KnownBits) (x y f : ℕ) → HasBits w a x → HasBits w b y
    → StandsFor flags f
    → Covers (known_flags_after op (bits_of w) (bits_cut (bits_of w) a) (bits_cut (bits_of w) b) flags)
    (alu_flags op w x y f)
operation_covers op w a b flags x y f ha hb s =
    flags_cover op w (bits_cut (bits_of w) a) (bits_cut (bits_of w) b) flags x y f (operand_covers w a x ha)
    (operand_covers w b y hb) ha.fits hb.fits s

pub result_covers : (op : AluOp) (w : Width) (a b : KnownBits) (x y : ℕ) → HasBits w a x → HasBits w b y
    → IfSome (alu_result op w x y)
    (CoversOperand w (alu_bits op (bits_of w) (bits_cut (bits_of w) a) (bits_cut (bits_of w) b)))
result_covers op w a b x y ha hb = by_op op both
  where
    both : (op : AluOp)
        → CoversOperand w (alu_bits op (bits_of w) (bits_cut (bits_of w) a) (bits_cut (bits_of w) b)) (outcome op w x y)
    both op = record {
      fits = outcome_fits op w x y ha.fits hb.fits;
      covers =
          outcome_covers (bits_cut (bits_of w) a) (bits_cut (bits_of w) b) x y (operand_covers w a x ha)
          (operand_covers w b y hb) op w;
    }

    by_op : (op : AluOp) → ((op : AluOp)
        → CoversOperand w (alu_bits op (bits_of w) (bits_cut (bits_of w) a) (bits_cut (bits_of w) b))
        (outcome op w x y)) → IfSome (alu_result op w x y)
        (CoversOperand w (alu_bits op (bits_of w) (bits_cut (bits_of w) a) (bits_cut (bits_of w) b)))
    by_op alu.Add h = h alu.Add
    by_op alu.Or h = h alu.Or
    by_op alu.And h = h alu.And
    by_op alu.Sub h = h alu.Sub
    by_op alu.Xor h = h alu.Xor
    by_op alu.Cmp h = tt

-- ---- an operand with itself

difference_self : (w : Width) (x : ℕ) → difference (bits_of w) x x ≡ 0
difference_self Byte x = omega arith
difference_self Long x = omega arith
difference_self Quad x = omega arith

xor_self : (x : ℕ) → bit_xor x x ≡ 0
xor_self x = same_from_bits (bit_xor x x) 0 (λ i. bit_at_xor x x i ∙ omega (arith, bit_at-zero i))

-- no carry, no borrow, no overflow, and a result of 0
flags_of_zero : ℕ → ℕ
flags_of_zero n = flag 0 false + flag 4 false + flag 11 false + result_flags n 0

unlike_self : (m n : ℕ) → ((m == n) && not (m == m)) ≡ false
unlike_self m n = and_right (m == n) (not (m == m)) (not_from_true (m == m) (eq-eqb m m refl))

self_flags : (w : Width) (x : ℕ) → difference_flags (bits_of w) x x ≡ flags_of_zero (bits_of w)
unfolding flags_of_zero
self_flags w x =
    let n : ℕ = bits_of w in
    let carry : borrows n x x ≡ false = le-ltb (x % 2 ^ n) (x % 2 ^ n) (omega arith) in
    let half : borrows 4 x x ≡ false = le-ltb (x % 2 ^ 4) (x % 2 ^ 4) (omega arith) in
    let zero : difference n x x ≡ 0 = difference_self w x in
    let over : overflows n x (difference n x x) x ≡ false = unlike_self (sign n x) (sign n (difference n x x)) in
    λ i. flag 0 (carry i) + flag 4 (half i) + flag 11 (over i) + result_flags n (zero i)

pub self_result : (op : AluOp) (w : Width) (x : ℕ) → cancels op ≡ true → alu_result op w x x ≡ Some 0
self_result alu.Add w x e = absurd (false≢true e)
self_result alu.Or w x e = absurd (false≢true e)
self_result alu.And w x e = absurd (false≢true e)
self_result alu.Sub w x e = ap Some (difference_self w x)
self_result alu.Xor w x e = ap Some (xor_self x)
self_result alu.Cmp w x e = absurd (false≢true e)

pub self_flags_after : (op : AluOp) (w : Width) (x f : ℕ) → cancels op ≡ true
    → alu_flags op w x x f ≡ alu_flags op w 0 0 f
self_flags_after alu.Add w x f e = absurd (false≢true e)
self_flags_after alu.Or w x f e = absurd (false≢true e)
self_flags_after alu.And w x f e = absurd (false≢true e)
self_flags_after alu.Sub w x f e =
    ap (λ (v : ℕ). replaced status v f) (self_flags w x ∙ sym (self_flags w 0))
self_flags_after alu.Xor w x f e =
    ap (λ (v : ℕ). replaced logic_status (result_flags (bits_of w) v) f) (xor_self x ∙ sym (xor_self 0))
self_flags_after alu.Cmp w x f e = absurd (false≢true e)
