use Rattle.kc_returns.proofs.PassLemmas.{step_passes}
use Rattle.kc_returns.proofs.WholeLemmas.{return_covered, frame_is_due}
use Rattle.kc_returns.proofs.laws.returned.Goals as goal

pub returns : goal.returns
returns c = record { passes = step_passes; covered = return_covered; frame = frame_is_due }
