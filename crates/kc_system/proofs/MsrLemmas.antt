-- Model-specific registers: the number in ECX is the known one where the condition on the instruction holds, what is
-- known of EDX:EAX covers it, and what is known of a register covers what it holds.
use Rattle.std.proofs.Common.{◌≡◌, ℕ, ◌%◌, ◌^◌, ◌<◌, ◌||◌, ◌&&◌, ◌⊎◌, Bool, true, false, cond, if◌then◌else◌, Option, Some, inl, inr, refl, sym, subst, arith}
use Rattle.std.proofs.lemmas.Bool.{false≢true, and_parts, or_cases, eq-eqb}
use Rattle.std.proofs.lemmas.Nat.Bits.{bit_at-zero}
use Rattle.kc_words.specs.Flags.{bits_of, cut}
use Rattle.kc_words.specs.declared.width.Width.TheVariants.{Long}
use Rattle.kc_bits.specs.KnownBits.{KnownBits}
use Rattle.kc_bits.specs.Bits.{StandsFor, bits_cut, bits_single, flipped}
use Rattle.kc_bits.proofs.Whole.{all_stands}
use Rattle.kc_rules.proofs.TestLemmas.{chosen}
use Rattle.kc_space.specs.Latches.{TriStands}
use Rattle.kc_space.specs.declared.tri.Tri.{Tri}
use Rattle.kc_space.specs.declared.tri.Tri.TheVariants.{No, Yes, Any}
use Rattle.kc_state.specs.AbsEffect.{is_number, gs_base, kernel_gs_base, mcg_status, mcg_bits}
use Rattle.kc_state.specs.Conditions.{is_base_number, is_canonical as is_known_canonical}
use Rattle.kc_exec.specs.Breaks.{is_known_msr, takes}
use Rattle.kc_arith.specs.Covers.{Covers}
use Rattle.kc_arith.proofs.ArithmeticLemmas.{single_is}
use Rattle.kc_arith.proofs.BitLemmas.{all_covers}
use Rattle.kc_arith.proofs.WidthLemmas.{cut_stands}
use Rattle.kc_system.proofs.BaseLemmas.{number_is_some}
use Rattle.kc_system.proofs.CanonicalLemmas.{canonical_by_bits}

-- ---- the number in ECX

-- one of the three registers of the model
abbrev pub IsMsr : Option ℕ → Type 0
IsMsr o = (o ≡ Some gs_base) ⊎ (o ≡ Some kernel_gs_base) ⊎ (o ≡ Some mcg_status)

-- the known number of a register's lower half is the number there
pub number_in : (b : KnownBits) (n k : ℕ) → StandsFor b n → bits_single (bits_cut 32 b) ≡ Some k → n % 2 ^ 32 ≡ k
number_in b n k stands e =
    let c : Covers (bits_cut (bits_of Long) b) (cut Long n) = cut_stands Long b n stands in
    single_is (bits_cut 32 b) (n % 2 ^ 32) k c e

-- what holds of each of the three holds of the number
pub by_number : (P : Option ℕ → ℕ → Type 0) (o : Option ℕ) (n : ℕ) → ((k : ℕ) → o ≡ Some k → n ≡ k) → IsMsr o
    → P (Some gs_base) gs_base → P (Some kernel_gs_base) kernel_gs_base → P (Some mcg_status) mcg_status → P o n
by_number P o n single is active inactive status = elim is [
  | inl e ↦ at gs_base e active
  | inr other ↦ elim other [
    | inl e ↦ at kernel_gs_base e inactive
    | inr e ↦ at mcg_status e status
  ]
]
  where
    at : (k : ℕ) → o ≡ Some k → P (Some k) k → P o n
    at k e h = subst (λ z. P z n) (sym e) (subst (P (Some k)) (sym (single k e)) h)

base_number : (o : Option ℕ) → is_base_number o ≡ true → (o ≡ Some gs_base) ⊎ (o ≡ Some kernel_gs_base)
base_number o e = elim (or_cases (is_number gs_base o) (is_number kernel_gs_base o) e) [
  | inl active ↦ inl (number_is_some gs_base o active)
  | inr inactive ↦ inr (number_is_some kernel_gs_base o inactive)
]

-- RDMSR
pub read_number : (o : Option ℕ) → (is_base_number o || is_number mcg_status o) ≡ true → IsMsr o
read_number o e = elim (or_cases (is_base_number o) (is_number mcg_status o) e) [
  | inl base ↦ elim (base_number o base) [
    | inl active ↦ inl active
    | inr inactive ↦ inr (inl inactive)
  ]
  | inr status ↦ inr (inr (number_is_some mcg_status o status))
]

pub known_number : (o : Option ℕ) (n : ℕ) → ((k : ℕ) → o ≡ Some k → n ≡ k) → IsMsr o → is_known_msr n ≡ true
known_number o n single is = by_number (λ o n. is_known_msr n ≡ true) o n single is refl refl refl

-- WRMSR: a base with bits that are known alike, or 0 for IA32_MCG_STATUS
abbrev pub IsWritten : Option ℕ → KnownBits → Type 0
IsWritten o b =
    ((o ≡ Some gs_base) ⊎ (o ≡ Some kernel_gs_base)) × (is_known_canonical b ≡ true)
    ⊎ (o ≡ Some mcg_status) × (bits_single b ≡ Some 0)

pub written_number : (o : Option ℕ) (b : KnownBits)
    → (if is_base_number o then is_known_canonical b else is_number mcg_status o && is_number 0 (bits_single b)) ≡ true
    → IsWritten o b
written_number o b e =
    elim (chosen (is_base_number o) (is_known_canonical b) (is_number mcg_status o && is_number 0 (bits_single b)) true e) [
      | inl h ↦ inl (base_number o h.0, h.1)
      | inr h ↦
          let p = and_parts (is_number mcg_status o) (is_number 0 (bits_single b)) h.1 in
          inr (number_is_some mcg_status o p.0, number_is_some 0 (bits_single b) p.1)
    ]

pub written_is : (o : Option ℕ) (b : KnownBits) → IsWritten o b → IsMsr o
written_is o b (inl h) = elim h.0 [
  | inl active ↦ inl active
  | inr inactive ↦ inr (inl inactive)
]
written_is o b (inr h) = inr (inr h.0)

-- the register takes what is written
pub number_takes : (o : Option ℕ) (b : KnownBits) (n v : ℕ) → ((k : ℕ) → o ≡ Some k → n ≡ k) → Covers b v
    → IsWritten o b → takes n v ≡ true
number_takes o b n v single c (inl h) =
    let canonical = canonical_by_bits b v c.fits c.stands h.1 in
    elim h.0 [
      | inl active ↦ subst (λ z. takes z v ≡ true) (sym (single gs_base active)) canonical
      | inr inactive ↦ subst (λ z. takes z v ≡ true) (sym (single kernel_gs_base inactive)) canonical
    ]
number_takes o b n v single c (inr h) =
    subst (λ z. takes z v ≡ true) (sym (single mcg_status h.0))
    (eq-eqb v 0 (single_is b v 0 c h.1))

-- ---- MCIP

any_mcip : (b : Bool) → StandsFor (record { zeros = flipped 4; ones = 0 }) (cond b 4 0)
any_mcip true = λ i. ((all_stands 4 (omega arith) i).0, λ e. absurd (omega (arith, e, bit_at-zero i)))
any_mcip false = λ i. (λ e. bit_at-zero i, λ e. absurd (omega (arith, e, bit_at-zero i)))

-- what is known of IA32_MCG_STATUS covers it, by what is known of its latch
pub mcip_covers : (t : Tri) (b : Bool) → TriStands t b → Covers (mcg_bits t) (cond b 4 0)
mcip_covers No true e = absurd (false≢true (sym e))
mcip_covers No false e = all_covers 0 (omega arith)
mcip_covers Yes true e = all_covers 4 (omega arith)
mcip_covers Yes false e = absurd (false≢true e)
mcip_covers Any b e = record {
  valid = record { zeros_fit = omega arith; ones_fit = omega arith; apart = refl };
  fits = mcip_fits b;
  stands = any_mcip b;
}
  where
    mcip_fits : (b : Bool) → cond b 4 0 < 2 ^ 64
    mcip_fits true = omega arith
    mcip_fits false = omega arith
