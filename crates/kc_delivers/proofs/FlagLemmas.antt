-- RFLAGS at the entry of kernel code. Flags of the model stay such under a mask that leaves bit 1, and a mask counts
-- for its flags of the model alone; so what the analysis clears is what the processor clears. By places of bits.
use Rattle.std.proofs.Common.{◌≡◌, ℕ, ◌^◌, ◌<◌, ◌≤◌, min, Bool, true, false, bit_and, refl, sym, ap, ◌∙◌, subst, inl, inr, arith}
use Rattle.std.proofs.lemmas.Bool.{cases_lt, cases_eq}
use Rattle.std.proofs.lemmas.Nat.{and_le_r}
use Rattle.std.proofs.lemmas.Nat.Bits.{same_from_bits, bit_at_and, bit_at_or, bit_at-zero, bit_at_above, bit_at-pow_other, bit_at_mask_below}
use Rattle.std.specs.Int.{w64, bit_at, bit_not}
use Rattle.kc_bits.specs.KnownBits.{KnownBits}
use Rattle.kc_bits.specs.Bits.{StandsFor, flipped, all_of, bits_and}
use Rattle.kc_bits.proofs.Masks.{bit_at-flipped}
use Rattle.kc_bits.proofs.Operations.{and_sound}
use Rattle.kc_bits.proofs.Whole.{all_stands}
use Rattle.kc_exec.specs.Admitted.{model_flags, AreUserFlags}
use Rattle.kc_events.specs.Allowed.{AreModelFlags}
use Rattle.kc_events.specs.Delivery as machine
use Rattle.kc_state.specs.AbsDelivery.{cleared_flags}
use Rattle.kc_state.specs.Calls.{edited_rip, edited_flags}

-- ---- flags of the model

within : (n i : ℕ) → bit_and n model_flags ≡ n → bit_at n i ≤ bit_at model_flags i
within n i h =
    let e : min (bit_at n i) (bit_at model_flags i) ≡ bit_at n i =
    sym (bit_at_and n model_flags i) ∙ ap (λ (v : ℕ). bit_at v i) h in
    omega (arith, e)

-- two masks that agree on the model's flags
pub same_masked : (f m k : ℕ) → bit_and f model_flags ≡ f → bit_and model_flags m ≡ bit_and model_flags k
    → bit_and f m ≡ bit_and f k
same_masked f m k h same =
    same_from_bits (bit_and f m) (bit_and f k) (λ i.
    let low = within f i h in
    let one = bit_at_and model_flags m i in
    let other = bit_at_and model_flags k i in
    let both : bit_at (bit_and model_flags m) i ≡ bit_at (bit_and model_flags k) i = ap (λ (v : ℕ). bit_at v i) same
    in
    bit_at_and f m i ∙ omega (arith, low, one, other, both) ∙ sym (bit_at_and f k i))

-- flags of the model under a mask that leaves bit 1
pub masked_flags : (f m : ℕ) → AreModelFlags f → bit_at m 1 ≡ 1 → AreModelFlags (bit_and f m)
masked_flags f m model fixed = record {
  fixed = bit_at_and f m 1 ∙ omega (arith, model.fixed, fixed);
  modelled =
      same_from_bits (bit_and (bit_and f m) model_flags) (bit_and f m) (λ i.
      bit_at_and (bit_and f m) model_flags i
      ∙ omega (arith, bit_at_and f m i, within f i model.modelled));
}

pub masked_fits : (f m : ℕ) → m < 2 ^ 64 → bit_and f m < 2 ^ 64
masked_fits f m fits = omega (arith, and_le_r f m, fits)

-- known bits under a known mask
pub masked_stands : (b : KnownBits) (f m : ℕ) → f < 2 ^ 64 → m < 2 ^ 64 → StandsFor b f
    → StandsFor (bits_and b (all_of m)) (bit_and f m)
masked_stands b f m fits mask s = and_sound b (all_of m) f m fits mask s (all_stands m mask)

-- ---- a delivery

-- what a delivery leaves of flags of the model: NT isn't one of them
entry_mask : (trap : Bool) → bit_and model_flags (bit_not w64 (machine.cleared_flags trap))
    ≡ bit_and model_flags (flipped (cleared_flags trap))
entry_mask true = refl
entry_mask false = refl

mask_fits : (trap : Bool) → flipped (cleared_flags trap) < 2 ^ 64
mask_fits true = omega arith
mask_fits false = omega arith

cleared_fits : (trap : Bool) → bit_not w64 (machine.cleared_flags trap) < 2 ^ 64
cleared_fits true = omega arith
cleared_fits false = omega arith

keeps_fixed : (trap : Bool) → bit_at (bit_not w64 (machine.cleared_flags trap)) 1 ≡ 1
keeps_fixed true = refl
keeps_fixed false = refl

-- the flags after a delivery
abbrev pub entered_flags : ℕ → Bool → ℕ
entered_flags f trap = bit_and f (bit_not w64 (machine.cleared_flags trap))

pub entry_flags_model : (f : ℕ) (trap : Bool) → AreModelFlags f → AreModelFlags (entered_flags f trap)
entry_flags_model f trap model =
    masked_flags f (bit_not w64 (machine.cleared_flags trap)) model (keeps_fixed trap)

pub entry_flags_fit : (f : ℕ) (trap : Bool) → entered_flags f trap < 2 ^ 64
entry_flags_fit f trap = masked_fits f (bit_not w64 (machine.cleared_flags trap)) (cleared_fits trap)

pub entry_flags_stand : (b : KnownBits) (f : ℕ) (trap : Bool) → f < 2 ^ 64 → AreModelFlags f → StandsFor b f
    → StandsFor (bits_and b (all_of (flipped (cleared_flags trap)))) (entered_flags f trap)
entry_flags_stand b f trap fits model s =
    let m = flipped (cleared_flags trap) in
    subst (StandsFor (bits_and b (all_of m)))
    (sym (same_masked f (bit_not w64 (machine.cleared_flags trap)) m model.modelled (entry_mask trap)))
    (masked_stands b f m fits (mask_fits trap) s)

-- ---- SYSCALL

-- a mask of the flags that SYSCALL clears leaves bit 1
pub fmask_fixed : (fmask : ℕ) → fmask < 2 ^ 32 → bit_at fmask 1 ≡ 0 → bit_at (bit_not w64 fmask) 1 ≡ 1
fmask_fixed fmask fits none =
    let out = bit_at-flipped fmask 1 (omega (arith, fits)) (omega arith) in omega (arith, out, none)

-- ---- what is known of the user

pub user_model : (f : ℕ) → AreUserFlags f → AreModelFlags f
user_model f h = record { fixed = h.fixed; modelled = h.modelled }

-- IF and bit 1 are the two that are known to be set
set_at : (f i : ℕ) → AreUserFlags f → bit_at 0x202 i ≡ 1 → bit_at f i ≡ 1
set_at f i h set =
    let parts : bit_at 0x202 i ≡ _ = bit_at_or 0x200 2 i in
    elim (cases_eq i 1) [
      | inl e ↦ subst (λ j. bit_at f j ≡ 1) (sym e) h.fixed
      | inr other ↦ elim (cases_eq i 9) [
        | inl e ↦ subst (λ j. bit_at f j ≡ 1) (sym e) h.interrupts
        | inr apart ↦
            absurd (omega (arith, set, parts, bit_at-pow_other 1 i other, bit_at-pow_other 9 i apart))
      ]
    ]

pub user_flags_stand : (f : ℕ) → f < 2 ^ 64 → AreUserFlags f → StandsFor edited_flags.bits f
user_flags_stand f fits h = λ i. (
  λ zero. elim (cases_lt i 64) [
    | inl k ↦ omega (arith, zero, bit_at-flipped model_flags i (omega arith) k, within f i h.modelled)
    | inr k ↦ bit_at_above f 64 i fits k
  ],
  λ one. set_at f i h one,
)

pub user_rip_stands : (n : ℕ) → n < 2 ^ 47 → StandsFor edited_rip.bits n
user_rip_stands n fits = λ i. (
  λ zero. elim (cases_lt i 47) [
    | inl k ↦ absurd (omega (arith, zero, bit_at_mask_below 47 64 i k))
    | inr k ↦ bit_at_above n 47 i fits k
  ],
  λ one. absurd (omega (arith, one, bit_at-zero i)),
)
