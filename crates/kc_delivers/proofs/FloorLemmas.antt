-- Floors of the interrupted context as numbers: the base is the key's, or the floor bounds nothing.
use Rattle.std.proofs.Common.{ℕ, ◌-◌, ◌≢◌, ◌^◌, Bool, Option, Some, None, ◌∙◌, arith}
use Rattle.kc_regions.specs.Description.{Description}
use Rattle.kc_frames.specs.Floors.{FloorStands}
use Rattle.kc_frames.specs.declared.floor.Floor.{Floor}
use Rattle.kc_frames.specs.declared.floor.Floor.TheVariants as floor
use Rattle.kc_state.specs.AbsDelivery.{numbered}
use Rattle.kc_describes.specs.Fits.{IsBaseOf}

-- of a base that isn't the last address
pub numbered_stands : (cfg : Description) (based : Option ℕ) (syscall : Bool) (stack : Option ℕ) (f : Floor)
    (old base least : ℕ) → IsBaseOf cfg based syscall stack old → old ≢ 2 ^ 64 - 1 → FloorStands f old (Some least)
    → FloorStands (numbered based f) base (Some least)
numbered_stands cfg based syscall stack (floor.At a) old base least is last stands = stands
numbered_stands cfg (Some b) syscall stack floor.Base old base least is last stands =
    (λ e. last (is ∙ e), omega (arith, is, stands))
numbered_stands cfg None syscall stack floor.Base old base least is last stands = (λ e. omega (arith, e), omega arith)
