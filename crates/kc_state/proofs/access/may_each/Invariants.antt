use Rattle.std.proofs.Common.{◌≡◌}
use Rattle.kc_state.specs.Access.{may_bytes}
use Rattle.kc_state.proofs.access.may_each.Given as goal

-- what is left decides
abbrev pub invariant-loop-left : goal.invariant-loop-left
invariant-loop-left l = may_bytes l.cfg l.map l.touch l.at l.left ≡ may_bytes l.cfg l.map l.touch l.a l.size

abbrev pub decreases-loop-left : goal.decreases-loop-left
decreases-loop-left l = l.left
