use Rattle.std.proofs.Common.{ap, sym, refl, ◌++◌, codes}
use Rattle.kc_trace_text.specs.Lines.{mem_lines, user_assignments}
use Rattle.kc_trace_text.specs.Text.{text_of_lines, text_of_assignments}
use Rattle.kc_trace_text.proofs.PrintLemmas.{on_err, on_err_too, two_put, line_refused, rest_refused}
use Rattle.kc_trace_text.proofs.print.print_start.Goals as goal

-- the first line is refused
pub returns-in_err-write_all-clause-part : goal.returns-in_err-write_all-clause-part
returns-in_err-write_all-clause-part g c =
    on_err c.from_residual.result _
    (line_refused (g.S.Sink.state c.args.out.now) (g.S.Sink.state c.write_all.new.out) _
    ((codes "start" ++ text_of_assignments (user_assignments c.args.first.now)) ++ codes "\n")
    (text_of_lines (mem_lines c.args.first.now.writes)) _ refl
    (two_put _ _ _ _ _ _ c.new-line.ensures c.put_named_user.ensures.text c.put.ensures.text c.deref.ensures.0)
    c.in_err-write_all.ensures.part)

-- or a line of its bytes
pub returns-clause-part : goal.returns-clause-part
returns-clause-part g c =
    let first = (codes "start" ++ text_of_assignments (user_assignments c.args.first.now)) ++ codes "\n" in
    let line = two_put _ _ _ _ _ _ c.new-line.ensures c.put_named_user.ensures.text c.put.ensures.text
    c.deref.ensures.0 in
    on_err_too c.print_writes.result _ _
    (rest_refused (g.S.Sink.state c.args.out.now) (g.S.Sink.state c.write_all.new.out) _ first
    (text_of_lines (mem_lines c.as_slice.result.now)) _
    (ap (λ ws. first ++ text_of_lines (mem_lines ws)) (sym c.as_slice.ensures.items)) line
    (g.S.Sink.state c.print_writes.new.out) c.in_ok-write_all.ensures.all c.in_ok-write_all.ensures.kept)
    c.print_writes.ensures.part
