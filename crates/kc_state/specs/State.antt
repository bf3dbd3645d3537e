-- Abstract states, this project's own: order, join and top part by part.
use Rattle.std.specs.Prelude.{◌≡◌, ℕ, ◌+◌, Bool, ◌&&◌, length, replicate, map, All, sum_by}
use Rattle.kc_lattice.specs.Rows.{rows_below, rows_joined}
use Rattle.kc_frames.specs.Floors.{AreFloors, floor_top, floors_below, floors_joined, floors_top, floors_rank}
use Rattle.kc_frames.specs.Slots.{every_slot, AreSlots}
use Rattle.kc_space.specs.Latches.{latches_below, latches_joined, latches_top, latches_rank}
use Rattle.kc_space.specs.Spaces.{gs_below, gs_joined, gs_top, gs_rank, map_below, map_joined, map_rank}
use Rattle.kc_space.specs.declared.map.MapState.TheVariants.{Any as AnyMap}
use Rattle.kc_value.specs.Value.{IsValidValue, value_below, value_joined, value_top, value_rank}
use Rattle.kc_state.specs.declared.state.AbsState.{AbsState}

-- 16 registers and 296 slots, and each part in its range
pub record IsState (s : AbsState) : Type 0 where
  pub regs : All IsValidValue s.regs
  pub reg_count : length s.regs ≡ 16
  pub flags : IsValidValue s.flags
  pub floors : AreFloors s.floors
  pub slots : AreSlots IsValidValue s.slots

abbrev pub state_below : AbsState → AbsState → Bool
state_below lesser greater =
    rows_below value_below lesser.regs greater.regs
    && (value_below lesser.flags greater.flags
    && (gs_below lesser.gs greater.gs
    && (map_below lesser.map greater.map
    && (latches_below lesser.latches greater.latches &&
    (floors_below lesser.floors greater.floors && rows_below value_below lesser.slots greater.slots)))))

abbrev pub state_joined : AbsState → AbsState → AbsState
state_joined x y = record {
  regs = rows_joined value_joined x.regs y.regs;
  flags = value_joined x.flags y.flags;
  gs = gs_joined x.gs y.gs;
  map = map_joined x.map y.map;
  latches = latches_joined x.latches y.latches;
  floors = floors_joined x.floors y.floors;
  slots = rows_joined value_joined x.slots y.slots;
}

-- nothing is known
abbrev pub state_top : AbsState
state_top = record {
  regs = replicate 16 value_top;
  flags = value_top;
  gs = gs_top;
  map = AnyMap;
  latches = latches_top;
  floors = record { at = replicate 16 floor_top };
  slots = every_slot value_top;
}

-- the same, part by part
abbrev pub top_of_state : AbsState → AbsState
top_of_state s = record {
  regs = map (λ v. value_top) s.regs;
  flags = value_top;
  gs = gs_top;
  map = AnyMap;
  latches = latches_top;
  floors = floors_top s.floors;
  slots = map (λ v. value_top) s.slots;
}

abbrev pub state_rank : AbsState → ℕ
state_rank s =
    sum_by value_rank s.regs
    + (value_rank s.flags + (gs_rank s.gs +
    (map_rank s.map + (latches_rank s.latches + (floors_rank s.floors + sum_by value_rank s.slots)))))
