use Rattle.std.proofs.Common.{◌≡◌}
use Rattle.kc_find.proofs.rounds.count_returns.Given as goal

-- latches aren't part of how the table stands
abbrev pub invariant-loop-node : goal.invariant-loop-node
invariant-loop-node l = l.table ≡ l.initial.table
