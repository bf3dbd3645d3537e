use Rattle.kc_arith.proofs.ConditionLemmas.{holds_stands}
use Rattle.kc_arith.proofs.flags.conditions.Goals as goal

pub returns : goal.returns
returns c = record { decided = holds_stands }
