use Rattle.std.proofs.Common.{◌≡◌, ◌+◌, ◌*◌, ◌≤◌, ◌++◌, take, length}
use Rattle.std.specs.List.{flat_map}
use Rattle.kc_certfields.specs.Spelling.{floor_bytes}
use Rattle.kc_certfields.proofs.put_states.put_floors.Given as goal

abbrev pub invariant-loop-floor : goal.invariant-loop-floor
invariant-loop-floor l = record {
  text : l.out.items ≡ l.initial.out.items ++ flat_map floor_bytes (take l.floor-index l.floors);
  len : length l.out.items ≤ length l.initial.out.items + 9 * l.floor-index;
}
