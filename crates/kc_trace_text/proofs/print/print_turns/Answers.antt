use Rattle.std.proofs.Common.{arith}
use Rattle.kc_trace_text.proofs.PrintLemmas.{on_err, on_err_too, turn_refused, turn_printed, count_few, end_cut}
use Rattle.kc_trace_text.proofs.print.print_turns.Goals as goal

-- a line of the next turn, or of those before it, is refused
pub returns-in_err-count-clause-part : goal.returns-in_err-count-clause-part
returns-in_err-count-clause-part g c =
    on_err c.from_residual.result _
    (turn_refused (g.S.Sink.state c.args.out.now) (g.S.Sink.state c.loop-turn.out) (g.S.Sink.state c.print_next.new.out)
    _ c.args.turns.now c.loop-turn.turn-index c.loop-turn.count _ c.loop-turn-test.true c.turn-item.is
    c.loop-turn.invariant.printed c.in_err-count.ensures.part)

-- they are written
pub loop-turn-preserved : goal.loop-turn-preserved
loop-turn-preserved g c = record {
  printed =
      turn_printed (g.S.Sink.state c.args.out.now) (g.S.Sink.state c.loop-turn.out)
      (g.S.Sink.state c.print_next.new.out) _ c.args.turns.now c.loop-turn.turn-index c.loop-turn.count
      c.turn-item.result c.loop-turn-test.true c.turn-item.is c.loop-turn.invariant.printed c.in_ok-count.count
      c.in_ok-count.ensures.count c.in_ok-count.ensures.all c.in_ok-count.ensures.kept;
  few =
      omega (
        arith,
        c.in_ok-count.ensures.count,
        count_few c.loop-turn.count c.turn-item.result,
        c.loop-turn.invariant.few,
      );
}

-- the last turns Go are refused
pub returns-clause-part : goal.returns-clause-part
returns-clause-part g c =
    on_err_too c.print_go.result _ _
    (end_cut (g.S.Sink.state c.args.out.now) (g.S.Sink.state c.loop-turn.out) (g.S.Sink.state c.print_go.new.out) _
    c.args.turns.now c.loop-turn.turn-index c.loop-turn.count c.loop-turn-test.false c.loop-turn.invariant.printed)
    c.print_go.ensures.part
