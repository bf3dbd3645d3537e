use Rattle.std.proofs.Common.{◌≡◌}
use Rattle.kc_find.specs.Rounds.{IsGrown, stood}
use Rattle.kc_find.proofs.rounds.visit_each.Given as goal

abbrev pub invariant-loop-node : goal.invariant-loop-node
invariant-loop-node l = (stood l.table ≡ stood l.initial.table) × IsGrown l.initial.table l.table
