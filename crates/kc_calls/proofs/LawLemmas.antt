-- The laws as they are stated.
use Rattle.kc_calls.specs.Laws.{LeaveIsCovered}
use Rattle.kc_calls.proofs.LeaveLemmas as leave

pub leave_covered : LeaveIsCovered
leave_covered cfg image key at insn len s S l here valid is typed D allowed =
    leave.leave_covered cfg valid key at insn len s is S l typed D image here allowed
