use Rattle.std.proofs.Common.{◌≤◌}
use Rattle.kc_find.specs.Rounds.{AreSettled, room, total_rank}
use Rattle.kc_find.proofs.finder.rise.Given as goal

-- no round takes room back
abbrev pub invariant-loop : goal.invariant-loop
invariant-loop l = AreSettled l.table × (room l.table ≤ room l.initial.table)

-- each round in which nothing comes raises a value
abbrev pub decreases-loop : goal.decreases-loop
decreases-loop l = total_rank l.table
