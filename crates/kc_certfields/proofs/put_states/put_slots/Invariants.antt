use Rattle.std.proofs.Common.{◌≡◌, ◌+◌, ◌*◌, ◌≤◌, ◌++◌, drop, length}
use Rattle.kc_certfields.specs.Spelling.{slot_records}
use Rattle.kc_certfields.proofs.put_states.put_slots.Given as goal

-- what was written, and the records of the slots that are left
abbrev pub invariant-loop-i : goal.invariant-loop-i
invariant-loop-i l = record {
  text : l.out.items ++ slot_records l.i (drop l.i l.slots) ≡ l.initial.out.items ++ slot_records 0 l.slots;
  len : length l.out.items ≤ length l.initial.out.items + 31 * l.i;
}
