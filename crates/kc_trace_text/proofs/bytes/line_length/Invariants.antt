use Rattle.kc_trace_text.proofs.LoopLemmas.{Runs}
use Rattle.kc_trace_text.proofs.bytes.line_length.Given as goal

-- the writes so far are at rising addresses
abbrev pub invariant-loop-count : goal.invariant-loop-count
invariant-loop-count l = Runs l.writes l.count
