use Rattle.std.proofs.Common.{refl, rules}
use Rattle.kc_trace_text.proofs.PrintLemmas.{on_err, line_refused, rest_refused, ended_text}
use Rattle.kc_trace_text.proofs.print.print_next.Goals as goal

-- the line of the turns Go is refused
pub returns-in_err-print_go-in_default : goal.returns-in_err-print_go-in_default
returns-in_err-print_go-in_default g c = record {
  count = search rules;
  all = search rules;
  part =
      on_err c.from_residual.result _
      (line_refused (g.S.Sink.state c.args.out.now) (g.S.Sink.state c.print_go.new.out) _ _ _ _
      (ended_text c.args.count c.args.turn.now c.in_default.not-Go) refl c.in_err-print_go-in_default.ensures.part);
  kept = c.in_err-print_go-in_default.ensures.kept;
}

-- or a line of the turn
pub returns-in_err-print_turn-in_default : goal.returns-in_err-print_turn-in_default
returns-in_err-print_turn-in_default g c = record {
  count = search rules;
  all = search rules;
  part =
      on_err c.from_residual-in_err-print_turn-in_default.result _
      (rest_refused (g.S.Sink.state c.args.out.now) (g.S.Sink.state c.print_go.new.out) _ _ _ _
      (ended_text c.args.count c.args.turn.now c.in_default.not-Go) refl (g.S.Sink.state c.print_turn.new.out)
      c.in_ok-print_go-in_default.ensures.all c.in_ok-print_go-in_default.ensures.kept
      c.in_err-print_turn-in_default.ensures.part);
  kept = search rules;
}
