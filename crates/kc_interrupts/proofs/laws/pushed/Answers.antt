use Rattle.kc_interrupts.proofs.PushFloorLemmas.{push_unlive}
use Rattle.kc_interrupts.proofs.laws.pushed.Goals as goal

pub returns : goal.returns
returns c = record { free = push_unlive }
