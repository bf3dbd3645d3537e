use Rattle.std.proofs.Common.{◌≡◌, drop}
use Rattle.std.specs.List.{fold}
use Rattle.kc_replay.specs.Values.{assign_user, user_set}
use Rattle.kc_replay.proofs.values.user_set.Given as goal

-- the assignments left make of the set what all make
abbrev pub invariant-loop-assignment : goal.invariant-loop-assignment
invariant-loop-assignment l =
    fold assign_user l.set (drop l.assignment-index l.assignments)
    ≡ user_set l.fn.cfg l.fn.assignments l.fn.writes
