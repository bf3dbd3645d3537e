-- Lower bounds of live stack bytes, this project's own: their order and what each stands for, and one for each stack.
use Rattle.std.specs.Prelude.{◌≡◌, ◌≢◌, ℕ, ◌-◌, ◌^◌, ◌<◌, ◌≤◌, min, Bool, true, cond, ◌==◌, leb, length, All, map, sum_by, Option, Some, None}
use Rattle.kc_lattice.specs.Rows.{rows_below, rows_joined}
use Rattle.kc_frames.specs.declared.floor.Floor.{Floor}
use Rattle.kc_frames.specs.declared.floor.Floor.TheVariants.{At, Base}
use Rattle.kc_frames.specs.declared.floors.Floors.{Floors}

abbrev pub IsFloor : Floor → Type 0
IsFloor (At a) = a < 2 ^ 64
IsFloor Base = Unit {0}

-- at this address a stack has no live byte
abbrev pub none_live : ℕ
none_live = 2 ^ 64 - 1

-- an address is below each lesser one; the base lies between no live byte and address 0, beside all others
abbrev pub floor_below : Floor → Floor → Bool
floor_below (At a) (At b) = leb b a
floor_below (At a) Base = a == none_live
floor_below Base (At b) = b == 0
floor_below Base Base = true

abbrev pub floor_top : Floor
floor_top = At 0

-- the least that is above both the address a and the base
abbrev pub beside_base : ℕ → Floor
beside_base a = cond (a == none_live) Base (At 0)

abbrev pub floor_joined : Floor → Floor → Floor
floor_joined (At a) (At b) = At (min a b)
floor_joined (At a) Base = beside_base a
floor_joined Base (At b) = beside_base b
floor_joined Base Base = Base

abbrev pub floor_rank : Floor → ℕ
floor_rank (At a) = a
floor_rank Base = 1

-- the bound as an address, where the base is known or the floor isn't the base
abbrev pub floor_number : Option ℕ → Floor → Option ℕ
floor_number base (At a) = Some a
floor_number base Base = base

-- where the stack has a live byte, least is the least of them, and the bound is at or below it
abbrev pub FloorStands : Floor → ℕ → Option ℕ → Type 0
FloorStands floor base None = Unit {0}
FloorStands (At a) base (Some least) = (a ≢ none_live) × (a ≤ least)
FloorStands Base base (Some least) = base ≤ least

-- ---- a floor for each of 16 stacks

pub record AreFloors (f : Floors) : Type 0 where
  pub each : All IsFloor f.at
  pub count : length f.at ≡ 16

abbrev pub floors_below : Floors → Floors → Bool
floors_below lesser greater = rows_below floor_below lesser.at greater.at

abbrev pub floors_joined : Floors → Floors → Floors
floors_joined f g = record { at = rows_joined floor_joined f.at g.at }

abbrev pub floors_top : Floors → Floors
floors_top f = record { at = map (λ x. floor_top) f.at }

abbrev pub floors_rank : Floors → ℕ
floors_rank f = sum_by floor_rank f.at
