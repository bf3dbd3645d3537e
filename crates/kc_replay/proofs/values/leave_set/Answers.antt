use Rattle.std.proofs.Common.{ap}
use Rattle.std.specs.List.{fold}
use Rattle.kc_replay.specs.Values.{assign_leave}
use Rattle.kc_replay.proofs.values.leave_set.Goals as goal

pub loop-assignment-init : goal.loop-assignment-init
loop-assignment-init c = ap (λ set. fold assign_leave set c.args.assignments.now) c.same_leave-set.ensures
