use Rattle.kc_system.proofs.LawLemmas.{breaks_nothing}
use Rattle.kc_system.proofs.breaks.unbroken.Goals as goal

pub returns : goal.returns
returns c = record { nothing = breaks_nothing }
