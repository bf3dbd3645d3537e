use Rattle.std.proofs.Common.{◌≡◌, drop}
use Rattle.std.specs.List.{fold}
use Rattle.kc_replay.specs.Values.{assign_body, body_set}
use Rattle.kc_replay.proofs.values.body_set.Given as goal

-- the assignments left make of the set what all make
abbrev pub invariant-loop-assignment : goal.invariant-loop-assignment
invariant-loop-assignment l =
    fold assign_body l.set (drop l.assignment-index l.assignments)
    ≡ body_set l.fn.cpu l.fn.assignments l.fn.writes
