use Rattle.std.proofs.Common.{◌≡◌}
use Rattle.kc_state.specs.AbsEvents.{may_fault_bytes}
use Rattle.kc_absevent.proofs.faults.may_fault_bytes.Given as goal

-- what is left decides
abbrev pub invariant-loop-left : goal.invariant-loop-left
invariant-loop-left l = may_fault_bytes l.cfg l.at l.left ≡ may_fault_bytes l.cfg l.a l.size

abbrev pub decreases-loop-left : goal.decreases-loop-left
decreases-loop-left l = l.left
