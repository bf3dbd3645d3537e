use Rattle.std.proofs.Common.{◌≡◌, drop}
use Rattle.std.specs.List.{fold}
use Rattle.kc_replay.specs.Values.{assign_leave, leave_set}
use Rattle.kc_replay.proofs.values.leave_set.Given as goal

-- the assignments left make of the set what all make
abbrev pub invariant-loop-assignment : goal.invariant-loop-assignment
invariant-loop-assignment l =
    fold assign_leave l.set (drop l.assignment-index l.assignments)
    ≡ leave_set l.fn.cfg l.fn.cpu l.fn.assignments
