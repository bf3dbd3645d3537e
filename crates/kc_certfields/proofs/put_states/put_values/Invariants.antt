use Rattle.std.proofs.Common.{◌≡◌, ◌+◌, ◌*◌, ◌≤◌, ◌++◌, take, length}
use Rattle.std.specs.List.{flat_map}
use Rattle.kc_certfields.specs.Spelling.{value_bytes}
use Rattle.kc_certfields.proofs.put_states.put_values.Given as goal

abbrev pub invariant-loop-value : goal.invariant-loop-value
invariant-loop-value l = record {
  text : l.out.items ≡ l.initial.out.items ++ flat_map value_bytes (take l.value-index l.values);
  len : length l.out.items ≤ length l.initial.out.items + 29 * l.value-index;
}
