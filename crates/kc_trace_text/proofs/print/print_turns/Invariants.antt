use Rattle.std.proofs.Common.{◌≤◌, drop}
use Rattle.kc_trace_text.specs.Lines.{lines_after}
use Rattle.kc_trace_text.specs.Text.{text_of_lines}
use Rattle.kc_trace_text.proofs.SinkLemmas.{Printed}
use Rattle.kc_trace_text.proofs.print.print_turns.Given as goal

-- the lines of the turns so far are written, but for those of the last turns Go
abbrev pub invariant-loop-turn : goal.invariant-loop-turn
invariant-loop-turn g l = record {
  printed :
      Printed (g.S.Sink.state l.fn.out) (g.S.Sink.state l.out) (text_of_lines (lines_after 0 l.turns))
      (text_of_lines (lines_after l.count (drop l.turn-index l.turns)));
  few : l.count ≤ l.turn-index;
}
