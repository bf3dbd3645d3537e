use Rattle.std.proofs.Common.{◌≡◌}
use Rattle.kc_find.specs.Rounds.{IsGrown, stood}
use Rattle.kc_find.proofs.users.want_entries.Given as goal

abbrev pub invariant-loop-vector : goal.invariant-loop-vector
invariant-loop-vector l = (stood l.table ≡ stood l.initial.table) × IsGrown l.initial.table l.table
