use Rattle.kc_calls.proofs.EnteredLemmas.{call_covered}
use Rattle.kc_calls.proofs.enter.entered.Goals as goal

pub returns : goal.returns
returns c = record { covered = call_covered }
