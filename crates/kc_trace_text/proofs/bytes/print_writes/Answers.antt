use Rattle.std.proofs.Common.{arith}
use Rattle.kc_trace_text.proofs.PrintLemmas.{on_err, bytes_refused, bytes_printed}
use Rattle.kc_trace_text.proofs.bytes.print_writes.Goals as goal

-- the first of the lines that are left is refused
pub returns-in_err-print_mem-clause-part : goal.returns-in_err-print_mem-clause-part
returns-in_err-print_mem-clause-part g c =
    on_err c.from_residual.result _
    (bytes_refused (g.S.Sink.state c.args.out.now) (g.S.Sink.state c.loop-rest.out) (g.S.Sink.state c.print_mem.new.out)
    _ c.loop-rest.rest.now c.line_length-count.result (omega (arith, c.in-len1-up.len_at_least))
    c.line_length-count.ensures.line c.loop-rest.invariant c.in_err-print_mem.ensures.part)

-- or written
pub loop-rest-preserved : goal.loop-rest-preserved
loop-rest-preserved g c =
    bytes_printed (g.S.Sink.state c.args.out.now) (g.S.Sink.state c.loop-rest.out) (g.S.Sink.state c.print_mem.new.out)
    _ c.loop-rest.rest.now c.line_length-count.result (omega (arith, c.in-len1-up.len_at_least))
    c.line_length-count.ensures.line c.loop-rest.invariant c.in_ok-print_mem.ensures.all c.in_ok-print_mem.ensures.kept
