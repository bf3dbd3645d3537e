use Rattle.kc_arrivals.proofs.KernelLemmas.{event_is_among}
use Rattle.kc_arrivals.proofs.laws.in_kernel.Goals as goal

pub returns : goal.returns
returns c = record { among = event_is_among }
