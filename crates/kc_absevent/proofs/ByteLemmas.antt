-- One step of the walks over bytes: what is asked of n bytes is asked of the first or of the n - 1 after it.
use Rattle.std.proofs.Common.{◌≡◌, ℕ, zero, suc, ◌+◌, ◌-◌, ◌<◌, false, ◌&&◌, ◌||◌, Option, ap, arith}
use Rattle.std.specs.Prelude.{not}
use Rattle.kc_bits.specs.Bits.{word}
use Rattle.kc_frames.specs.ClobberSets.{ClobberSets}
use Rattle.kc_regions.specs.Description.{Description}
use Rattle.kc_regions.specs.Permission.{passes}
use Rattle.kc_regions.specs.Region.{region_of, stack_of}
use Rattle.kc_state.specs.AbsEvents.{may_fault_bytes}
use Rattle.kc_state.specs.AbsReturn.{is_clobbered, is_protected, loses_bytes}
use Rattle.kc_state.specs.declared.location.Location.{Location}

pub may_fault_first : (d : Description) (a n : ℕ) → 0 < n → may_fault_bytes d a n
    ≡ (passes (λ r. r.may_fault) (region_of d.regions a) || may_fault_bytes d (word (a + 1)) (n - 1))
unfolding may_fault_bytes
may_fault_first d a zero h = absurd (omega (arith, h))
may_fault_first d a (suc n) h =
    let one : n ≡ suc n - 1 = omega arith in
    ap (λ (k : ℕ). passes (λ r. r.may_fault) (region_of d.regions a) || may_fault_bytes d (word (a + 1)) k) one

pub may_fault_none : (d : Description) (a n : ℕ) → n ≡ 0 → may_fault_bytes d a n ≡ false
unfolding may_fault_bytes
may_fault_none d a n e = ap (may_fault_bytes d a) e

pub loses_first : (d : Description) (rsp : Option Location) (c : ClobberSets) (a at n : ℕ) → 0 < n →
    loses_bytes d rsp c a at n
    ≡ ((is_clobbered c (stack_of d.regions at) && not (is_protected d rsp a (stack_of d.regions at)))
    || loses_bytes d rsp c a (word (at + 1)) (n - 1))
unfolding loses_bytes
loses_first d rsp c a at zero h = absurd (omega (arith, h))
loses_first d rsp c a at (suc n) h =
    let one : n ≡ suc n - 1 = omega arith in
    ap (λ (k : ℕ). (is_clobbered c (stack_of d.regions at) && not (is_protected d rsp a (stack_of d.regions at)))
    || loses_bytes d rsp c a (word (at + 1)) k) one

pub loses_none : (d : Description) (rsp : Option Location) (c : ClobberSets) (a at n : ℕ) → n ≡ 0
    → loses_bytes d rsp c a at n ≡ false
unfolding loses_bytes
loses_none d rsp c a at n e = ap (loses_bytes d rsp c a at) e
