use Rattle.std.proofs.Common.{◌≡◌}
use Rattle.kc_state.specs.AbsReturn.{loses_bytes}
use Rattle.kc_absevent.proofs.after.loses_one.Given as goal

-- what is left decides
abbrev pub invariant-loop-left : goal.invariant-loop-left
invariant-loop-left l = loses_bytes l.cfg l.rsp l.c l.a l.at l.left ≡ loses_bytes l.cfg l.rsp l.c l.a l.a 8

abbrev pub decreases-loop-left : goal.decreases-loop-left
decreases-loop-left l = l.left
