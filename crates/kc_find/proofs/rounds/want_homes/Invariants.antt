use Rattle.std.proofs.Common.{◌≡◌}
use Rattle.kc_find.proofs.rounds.want_homes.Given as goal

abbrev pub invariant-loop-context : goal.invariant-loop-context
invariant-loop-context l = l.table ≡ l.initial.table
