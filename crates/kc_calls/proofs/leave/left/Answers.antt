use Rattle.kc_calls.proofs.LawLemmas.{leave_covered}
use Rattle.kc_calls.proofs.leave.left.Goals as goal

pub returns : goal.returns
returns c = record { covered = leave_covered }
