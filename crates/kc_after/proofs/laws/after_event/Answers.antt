use Rattle.kc_after.proofs.AfterLemmas.{after_return_describes}
use Rattle.kc_after.proofs.laws.after_event.Goals as goal

pub returns : goal.returns
returns c = record { described = after_return_describes }
