-- Which bytes may be accessed, and which hold no live byte, this project's own.
use Rattle.std.specs.Prelude.{ℕ, zero, suc, ◌+◌, ◌^◌, ◌<◌, ◌≤◌, max, Bool, true, false, ◌&&◌, ◌==◌, not, nat_le, Option, Some, None, get_or, pos, neg_ℤ, int_le}
use Rattle.kc_bits.specs.Bits.{word}
use Rattle.kc_frames.specs.Floors.{floor_number, floor_top, none_live}
use Rattle.kc_frames.specs.declared.floor.Floor.{Floor}
use Rattle.kc_frames.specs.declared.floor.Floor.TheVariants.{At, Base}
use Rattle.kc_frames.specs.declared.floors.Floors.{Floors}
use Rattle.kc_regions.specs.Description.{Description}
use Rattle.kc_regions.specs.Permission.{passes, has_right}
use Rattle.kc_regions.specs.Region.{is_guard, region_of, stack_of, stack_at}
use Rattle.kc_regions.specs.declared.region.Region.{Region}
use Rattle.kc_regions.specs.declared.touch.Touch.{Touch}
use Rattle.kc_space.specs.declared.map.MapState.{MapState}
use Rattle.kc_space.specs.declared.map.MapState.TheVariants.{Kernel as KernelMap, User as UserMap, Any as AnyMap}
use Rattle.kc_words.specs.Range.{Range}
use Rattle.kc_state.specs.declared.key.Key.{Key}
use Rattle.kc_state.specs.declared.location.Location.{Location}
use Rattle.kc_state.specs.declared.location.Location.TheVariants.{Number, Relative}

-- ---- permission

-- every region is present under the kernel's map, guards apart; under an unknown one those that are under both
abbrev pub is_present_under : MapState → Region → Bool
is_present_under KernelMap r = not (is_guard r.kind)
is_present_under UserMap r = not (is_guard r.kind) && r.user_map
is_present_under AnyMap r = not (is_guard r.kind) && r.user_map

-- the region is present and has the right
abbrev pub may_region : MapState → Touch → Region → Bool
may_region map touch r = is_present_under map r && has_right touch r

-- address a lies in such a region
abbrev pub may_byte : Description → MapState → Touch → ℕ → Bool
may_byte d map touch a = passes (λ r. may_region map touch r) (region_of d.regions a)

-- each of the n bytes from a
unfoldable pub may_bytes : Description → MapState → Touch → ℕ → ℕ → Bool
may_bytes d map touch a zero = true
may_bytes d map touch a (suc n) = may_byte d map touch a && may_bytes d map touch (word (a + 1)) n

-- the stack of the key is present
abbrev pub is_stack_present : Description → Option ℕ → MapState → Bool
is_stack_present d None map = false
is_stack_present d (Some s) map = passes (is_present_under map) (stack_at d.regions s)

-- size bytes at this location: each may be accessed; or they lie in the 4,096 bytes below the base, and the stack is
-- present
abbrev pub may : Description → Key → MapState → Location → ℕ → Touch → Bool
may d key map (Number a) size touch = may_bytes d map touch a size
may d key map (Relative k) size touch =
    (int_le (neg_ℤ (pos 4096)) k && int_le k (neg_ℤ (pos size))) && is_stack_present d key.stack map

-- ---- live bytes

-- the floor is a number that isn't below n
abbrev pub is_floor_from : ℕ → Option ℕ → Bool
is_floor_from n None = false
is_floor_from n (Some floor) = nat_le n floor

-- the floor of the stack, if there is one, isn't below end
abbrev pub clear_stack : Key → Floors → ℕ → Option ℕ → Bool
clear_stack key floors end None = true
clear_stack key floors end (Some s) = is_floor_from end (floor_number key.base (get_or floors.at s floor_top))

-- the floor of each stack that n bytes from a meet isn't below end
unfoldable pub clear_bytes : Description → Key → Floors → ℕ → ℕ → ℕ → Bool
clear_bytes d key floors end a zero = true
clear_bytes d key floors end a (suc n) =
    clear_stack key floors end (stack_of d.regions a) && clear_bytes d key floors end (word (a + 1)) n

-- the base, or no live byte
abbrev pub is_base_or_none : Floor → Bool
is_base_or_none Base = true
is_base_or_none (At a) = a == none_live

abbrev pub is_base_clear : Floors → Option ℕ → Bool
is_base_clear floors None = false
is_base_clear floors (Some s) = is_base_or_none (get_or floors.at s floor_top)

-- size bytes at this location end at or below the floor of each stack that they meet, where 0 bytes count as the one
-- at the location; or they end at or below the base, and the stack has no live byte below it
abbrev pub clear : Description → Key → Floors → Location → ℕ → Bool
clear d key floors (Number a) size = clear_bytes d key floors (a + size) a (max size 1)
clear d key floors (Relative k) size = int_le k (neg_ℤ (pos size)) && is_base_clear floors key.stack

-- ---- machinery of the walks over bytes

-- the span holds the n bytes from a on; it ends below 2^64, so that they don't wrap
pub record HoldsBytes (s : Range) (a n : ℕ) : Type 0 where
  pub from : s.from ≤ a
  pub to : a + n ≤ s.to
  pub fits : s.to < 2 ^ 64
