use Rattle.kc_trace_law.proofs.TurnLemmas.{trace_says}
use Rattle.kc_trace_law.proofs.laws.printed_then_read.Goals as goal

pub returns : goal.returns
returns c = record { says = trace_says }
