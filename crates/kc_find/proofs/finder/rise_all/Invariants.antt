use Rattle.kc_find.specs.Rounds.{AreSettled, room}
use Rattle.kc_find.proofs.finder.rise_all.Given as goal

abbrev pub invariant-loop : goal.invariant-loop
invariant-loop l = AreSettled l.table

-- each turn of the loop ends with a context or a node that came
abbrev pub decreases-loop : goal.decreases-loop
decreases-loop l = room l.table
