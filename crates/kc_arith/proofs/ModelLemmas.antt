-- Flags that one instruction sets, clears or loads; and flags of the model with bit 1 stay such. By places: a mask's
-- bits at a place are computed where the place is written out, and else one mask is part of another one or apart from
-- it, which omega reads as an order between two bits.
use Rattle.std.proofs.Common.{◌≡◌, ℕ, ◌+◌, ◌^◌, ◌<◌, ◌≤◌, min, max, Bool, true, false, cond, bit_and, bit_or, refl, sym, ap, ◌∙◌, subst, inl, inr, arith}
use Rattle.std.proofs.lemmas.Bool.{cases_lt}
use Rattle.std.proofs.lemmas.Nat.{and_le_r, or_lt}
use Rattle.std.proofs.lemmas.Nat.Bits.{same_from_bits, bit_at_and, bit_at_or, bit_at-lt, bit_at-zero, bit_at_above}
use Rattle.std.specs.Int.{bit_at}
use Rattle.kc_bits.specs.KnownBits.{KnownBits}
use Rattle.kc_bits.specs.Bits.{StandsFor, flipped}
use Rattle.kc_bits.specs.BitsLaws.{Has}
use Rattle.kc_bits.proofs.Masks.{bit_at-flipped}
use Rattle.kc_insn.specs.declared.insn.AluOp.{AluOp}
use Rattle.kc_words.specs.declared.width.Width.{Width}
use Rattle.kc_state.specs.AbsEffect.{loaded_flags}
use Rattle.kc_state.specs.Flags.{status, logic_status, is_logic, set_flag, clear_flag}
use Rattle.kc_exec.specs.Admitted.{model_flags}
use Rattle.kc_exec.specs.Effect.{alu_flags, bit_flags}
use Rattle.kc_exec.specs.RFlags.{loadable, replaced, loaded, with_set, with_clear}
use Rattle.kc_arith.specs.Covers.{Covers, AreModelled}
use Rattle.kc_arith.proofs.MarkLemmas.{known_at, stands_from, apart_from, has_le, marked_stands, marked_valid, bit_at-replaced}
use Rattle.kc_arith.proofs.ArithmeticLemmas.{defined_by, flags_of, alu_flags-replaced}

-- ---- a flag is set or cleared

pub set_stands : (b : KnownBits) (mask f : ℕ) → mask < 2 ^ 64 → f < 2 ^ 64 → StandsFor b f
    → Covers (set_flag mask b) (with_set f mask)
set_stands b mask f mask_fits fits s =
    let or_at = bit_at_or f mask in
    let stands =
    marked_stands b mask mask 0 f (bit_or f mask) mask_fits s (λ i k e. or_at i ∙ omega (arith, e))
    (λ i. omega (arith, or_at i)) (λ i. omega (arith, bit_at-zero i, bit_at-lt (bit_or f mask) i)) in
    record {
      valid = marked_valid b mask mask 0 (bit_or f mask) mask_fits (omega arith) stands;
      fits = or_lt 64 f mask fits mask_fits;
      stands = stands;
    }

pub clear_stands : (b : KnownBits) (mask f : ℕ) → mask < 2 ^ 64 → StandsFor b f
    → Covers (clear_flag mask b) (with_clear f mask)
clear_stands b mask f mask_fits s =
    let n : ℕ = bit_and f (flipped mask) in
    let le : bit_and f (flipped mask) ≤ flipped mask = and_le_r f (flipped mask) in
    let stands =
    marked_stands b mask 0 mask f (bit_and f (flipped mask)) mask_fits s
    (λ i k e.
    bit_at_and f (flipped mask) i ∙ omega (arith, bit_at-flipped mask i mask_fits k, e, bit_at-lt f i))
    (λ i. omega (arith, bit_at-zero i)) (zero) in
    record {
      valid = marked_valid b mask 0 mask (bit_and f (flipped mask)) (omega arith) mask_fits stands;
      fits = omega (arith, le);
      stands = stands;
    }
  where
    zero : (i : ℕ) → bit_at mask i + bit_at (bit_and f (flipped mask)) i ≤ 1
    zero i = elim (cases_lt i 64) [
      | inl k ↦
          omega (
            arith,
            bit_at_and f (flipped mask) i,
            bit_at-flipped mask i mask_fits k,
            bit_at-lt mask i,
          )
      | inr k ↦
          omega (arith, bit_at_above mask 64 i mask_fits k, bit_at-lt (bit_and f (flipped mask)) i)
    ]

-- ---- flags are loaded

loaded_at : (n i : ℕ) → bit_at (loaded loadable n) i ≡ max (min (bit_at n i) (bit_at loadable i)) (bit_at 2 i)
loaded_at n i = bit_at_or (bit_and n loadable) 2 i ∙ omega (arith, bit_at_and n loadable i)

loaded_fits : (n : ℕ) → loaded loadable n < 2 ^ 64
loaded_fits n =
    let le : bit_and n loadable ≤ loadable = and_le_r n loadable in
    or_lt 64 (bit_and n loadable) 2 (omega (arith, le)) (omega arith)

pub loaded_stands : (b : KnownBits) (n : ℕ) → StandsFor b n → Covers (loaded_flags b) (loaded loadable n)
loaded_stands b n s = record {
  valid = record {
    zeros_fit =
        let le : bit_and b.zeros loadable ≤ loadable = and_le_r b.zeros loadable in
        or_lt 64 (bit_and b.zeros loadable) (flipped model_flags) (omega (arith, le)) (omega arith);
    ones_fit =
        let le : bit_and b.ones loadable ≤ loadable = and_le_r b.ones loadable in
        or_lt 64 (bit_and b.ones loadable) 2 (omega (arith, le)) (omega arith);
    apart = apart_from (loaded_flags b) (loaded loadable n) stands;
  };
  fits = loaded_fits n;
  stands = stands;
}
  where
    -- bit 1 isn't loaded
    apart_at : (i : ℕ) → min (bit_at loadable i) (bit_at 2 i) ≡ 0
    apart_at i = sym (bit_at_and loadable 2 i) ∙ bit_at-zero i

    zero : (i : ℕ) → bit_at (loaded_flags b).zeros i + bit_at (loaded loadable n) i ≤ 1
    zero i =
        let zeros = bit_at_or (bit_and b.zeros loadable) (flipped model_flags) i in
        let kept = bit_at_and b.zeros loadable i in
        let known = known_at b n i s in
        let first : bit_at loadable i ≤ bit_at model_flags i = has_le model_flags loadable i refl in
        let second : bit_at 2 i ≤ bit_at model_flags i = has_le model_flags 2 i refl in
        elim (cases_lt i 64) [
          | inl k ↦
              omega (
                arith,
                zeros,
                kept,
                known.0,
                loaded_at n i,
                apart_at i,
                first,
                second,
                bit_at-flipped model_flags i (omega arith) k,
                bit_at-lt n i,
                bit_at-lt b.zeros i,
                bit_at-lt loadable i,
                bit_at-lt 2 i,
                bit_at-lt model_flags i,
              )
          | inr k ↦
              omega (
                arith,
                loaded_at n i,
                bit_at_above loadable 64 i (omega arith) k,
                bit_at_above 2 64 i (omega arith) k,
                bit_at-lt (loaded_flags b).zeros i,
              )
        ]

    one : (i : ℕ) → bit_at (loaded_flags b).ones i ≤ bit_at (loaded loadable n) i
    one i =
        omega (
          arith,
          bit_at_or (bit_and b.ones loadable) 2 i,
          bit_at_and b.ones loadable i,
          (known_at b n i s).1,
          loaded_at n i,
        )

    stands : StandsFor (loaded_flags b) (loaded loadable n)
    stands = stands_from (loaded_flags b) (loaded loadable n) (λ i. (zero i, one i))

-- ---- the flags of the model

-- every bit is one of the model's, and bit 1 is set
modelled_from : (n : ℕ) → ((i : ℕ) → bit_at n i ≤ bit_at model_flags i) → bit_at n 1 ≡ 1 → AreModelled n
modelled_from n h e = record {
  fixed = e;
  modelled = same_from_bits (bit_and n model_flags) n (λ i. bit_at_and n model_flags i ∙ omega (arith, h i));
}

modelled_at : (n i : ℕ) → AreModelled n → bit_at n i ≤ bit_at model_flags i
modelled_at n i m =
    let e : min (bit_at n i) (bit_at model_flags i) ≡ bit_at n i =
    sym (bit_at_and n model_flags i) ∙ ap (λ (v : ℕ). bit_at v i) m.modelled in
    omega (arith, e)

-- flags of the model but bit 1
pub record IsPartOfModel (mask : ℕ) : Type 0 where
  pub part : Has model_flags mask
  pub not_fixed : bit_at mask 1 ≡ 0
  pub fits : mask < 2 ^ 64

pub replaced_modelled : (mask new f : ℕ) → IsPartOfModel mask → AreModelled f → AreModelled (replaced mask new f)
replaced_modelled mask new f p m =
    modelled_from (replaced mask new f) at
    (bit_at-replaced mask new f 1 p.fits (omega arith) ∙ omega (arith, p.not_fixed, m.fixed))
  where
    at : (i : ℕ) → bit_at (replaced mask new f) i ≤ bit_at model_flags i
    at i =
        omega (
          arith,
          bit_at_or (bit_and f (flipped mask)) (bit_and new mask) i,
          bit_at_and f (flipped mask) i,
          bit_at_and new mask i,
          has_le model_flags mask i p.part,
          modelled_at f i m,
        )

part_defined : (op : AluOp) → IsPartOfModel (defined_by op)
part_defined op = both (is_logic op)
  where
    both : (logic : Bool) → IsPartOfModel (cond logic logic_status status)
    both true = record { part = refl; not_fixed = refl; fits = omega arith }
    both false = record { part = refl; not_fixed = refl; fits = omega arith }

pub alu_modelled : (op : AluOp) (w : Width) (x y f : ℕ) → AreModelled f → AreModelled (alu_flags op w x y f)
alu_modelled op w x y f m =
    subst AreModelled (sym (alu_flags-replaced op w x y f))
    (replaced_modelled (defined_by op) (flags_of op w x y) f (part_defined op) m)

pub bit_modelled : (i x f : ℕ) → AreModelled f → AreModelled (bit_flags i x f)
bit_modelled i x f m =
    replaced_modelled 1 (bit_at x i) f (record { part = refl; not_fixed = refl; fits = omega arith }) m

pub set_modelled : (mask f : ℕ) → Has model_flags mask → AreModelled f → AreModelled (with_set f mask)
set_modelled mask f part m =
    modelled_from (bit_or f mask)
    (λ i. omega (arith, bit_at_or f mask i, has_le model_flags mask i part, modelled_at f i m))
    (bit_at_or f mask 1 ∙ omega (arith, m.fixed, bit_at-lt mask 1))

pub clear_modelled : (mask f : ℕ) → mask < 2 ^ 64 → bit_at mask 1 ≡ 0 → AreModelled f
    → AreModelled (with_clear f mask)
clear_modelled mask f fits e m =
    modelled_from (bit_and f (flipped mask))
    (λ i. omega (arith, bit_at_and f (flipped mask) i, modelled_at f i m))
    (bit_at_and f (flipped mask) 1 ∙ omega (arith, m.fixed, bit_at-flipped mask 1 fits (omega arith), e))

pub loaded_modelled : (n : ℕ) → AreModelled (loaded loadable n)
loaded_modelled n =
    modelled_from (loaded loadable n)
    (λ i.
    omega (arith, loaded_at n i, has_le model_flags loadable i refl, has_le model_flags 2 i refl))
    (loaded_at n 1 ∙ omega (arith, bit_at-lt n 1))
