use Rattle.std.proofs.Common.{◌≡◌, ◌≤◌, take}
use Rattle.kc_certfields.specs.Spelling.{known_slots}
use Rattle.kc_certfields.proofs.put_states.count_known.Given as goal

abbrev pub invariant-loop-i : goal.invariant-loop-i
invariant-loop-i l = record { count : l.count ≡ known_slots (take l.i l.slots); most : l.count ≤ l.i }
