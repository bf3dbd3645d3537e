use Rattle.kc_step.proofs.BreakLemmas.{step_breaks_nothing}
use Rattle.kc_step.proofs.StoreLemmas.{step_makes_store}
use Rattle.kc_step.proofs.laws.quiet.Goals as goal

pub returns : goal.returns
returns c = record { nothing = step_breaks_nothing; store = step_makes_store }
