-- One step of the walks over bytes: what is asked of n bytes is asked of the first and of the n - 1 after it.
use Rattle.std.proofs.Common.{◌≡◌, ℕ, zero, suc, ◌+◌, ◌-◌, ◌<◌, true, ◌&&◌, ap, arith}
use Rattle.kc_bits.specs.Bits.{word}
use Rattle.kc_frames.specs.declared.floors.Floors.{Floors}
use Rattle.kc_regions.specs.Description.{Description}
use Rattle.kc_regions.specs.Region.{stack_of}
use Rattle.kc_regions.specs.declared.touch.Touch.{Touch}
use Rattle.kc_space.specs.declared.map.MapState.{MapState}
use Rattle.kc_state.specs.Access.{may_byte, may_bytes, clear_stack, clear_bytes}
use Rattle.kc_state.specs.declared.key.Key.{Key}

pub may_bytes_first : (d : Description) (map : MapState) (touch : Touch) (a n : ℕ) → 0 < n →
    may_bytes d map touch a n ≡ (may_byte d map touch a && may_bytes d map touch (word (a + 1)) (n - 1))
unfolding may_bytes
may_bytes_first d map touch a zero h = absurd (omega (arith, h))
may_bytes_first d map touch a (suc n) h =
    let one : n ≡ suc n - 1 =
    omega arith in ap (λ (k : ℕ). may_byte d map touch a && may_bytes d map touch (word (a + 1)) k) one

pub clear_bytes_first : (d : Description) (key : Key) (floors : Floors) (end a n : ℕ) → 0 < n →
    clear_bytes d key floors end a n ≡ (clear_stack key floors end (stack_of d.regions a) && clear_bytes d key floors
    end (word (a + 1)) (n - 1))
unfolding clear_bytes
clear_bytes_first d key floors end a zero h = absurd (omega (arith, h))
clear_bytes_first d key floors end a (suc n) h =
    let one : n ≡ suc n - 1 = omega arith in
    ap (λ (k : ℕ). clear_stack key floors end (stack_of d.regions a) && clear_bytes d key floors end
    (word (a + 1)) k) one

pub may_bytes_none : (d : Description) (map : MapState) (touch : Touch) (a n : ℕ) → n ≡ 0 → may_bytes d map touch a n
    ≡ true
unfolding may_bytes
may_bytes_none d map touch a n e = ap (may_bytes d map touch a) e

pub clear_bytes_none : (d : Description) (key : Key) (floors : Floors) (end a n : ℕ) → n ≡ 0
    → clear_bytes d key floors end a n ≡ true
unfolding clear_bytes
clear_bytes_none d key floors end a n e = ap (clear_bytes d key floors end a) e
