use Rattle.std.proofs.Common.{◌≡◌}
use Rattle.kc_cert.specs.Placed.{with_stacks_of}
use Rattle.kc_placed.proofs.written.add_stacks_of.Given as goal

-- what was added, with what is left to add, is all
abbrev pub invariant-loop-left : goal.invariant-loop-left
invariant-loop-left l = with_stacks_of l.cfg l.all l.at l.left ≡ with_stacks_of l.cfg l.initial.all l.a l.size

abbrev pub decreases-loop-left : goal.decreases-loop-left
decreases-loop-left l = l.left
