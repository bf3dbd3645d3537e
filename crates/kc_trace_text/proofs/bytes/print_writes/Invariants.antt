use Rattle.std.proofs.Common.{length}
use Rattle.kc_trace_text.specs.Lines.{mem_lines}
use Rattle.kc_trace_text.specs.Text.{text_of_lines}
use Rattle.kc_trace_text.proofs.SinkLemmas.{Printed}
use Rattle.kc_trace_text.proofs.bytes.print_writes.Given as goal

-- the lines of the writes before the rest are written
abbrev pub invariant-loop-rest : goal.invariant-loop-rest
invariant-loop-rest g l =
    Printed (g.S.Sink.state l.fn.out) (g.S.Sink.state l.out) (text_of_lines (mem_lines l.fn.writes))
    (text_of_lines (mem_lines l.rest))

abbrev pub decreases-loop-rest : goal.decreases-loop-rest
decreases-loop-rest g l = length l.rest
