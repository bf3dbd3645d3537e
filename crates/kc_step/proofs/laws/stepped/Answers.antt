use Rattle.kc_step.proofs.CoveredLemmas.{step_covered}
use Rattle.kc_step.proofs.laws.stepped.Goals as goal

pub returns : goal.returns
returns c = record { covered = step_covered }
