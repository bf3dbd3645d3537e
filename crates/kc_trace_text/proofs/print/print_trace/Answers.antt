use Rattle.std.proofs.Common.{◌∙◌, refl, sym, ap, List, ◌∷◌, ◌++◌}
use Rattle.kc_trace.specs.declared.line.Line.{Line}
use Rattle.kc_trace.specs.declared.line.Line.TheVariants.{Start}
use Rattle.kc_trace_text.specs.Lines.{user_assignments, mem_lines, lines_after}
use Rattle.kc_trace_text.specs.Text.{text_of_lines}
use Rattle.kc_trace_text.proofs.PrintLemmas.{on_err, on_err_too, on_ok_too, line_refused, rest_refused, rest_written, lines_joined}
use Rattle.kc_trace_text.proofs.print.print_trace.Goals as goal

-- a line of the start is refused
pub returns-in_err-print_start-clause-part : goal.returns-in_err-print_start-clause-part
returns-in_err-print_start-clause-part g c =
    let trace = c.args.trace.now in
    on_err c.from_residual.result _
    (line_refused (g.S.Sink.state c.args.out.now) (g.S.Sink.state c.print_start.new.out) _ _ _ _
    (lines_joined (Start (user_assignments trace.first) ∷ mem_lines trace.first.writes) (lines_after 0 trace.turns))
    refl
    c.in_err-print_start.ensures.part)

-- all is written
pub returns-clause-all : goal.returns-clause-all
returns-clause-all g c =
    let trace = c.args.trace.now in
    let start : List Line = Start (user_assignments trace.first) ∷ mem_lines trace.first.writes in
    on_ok_too c.print_turns.result _ _
    (rest_written (g.S.Sink.state c.args.out.now) (g.S.Sink.state c.print_start.new.out) _ _ _ _
    (lines_joined start (lines_after 0 trace.turns)
    ∙ ap (λ ts. text_of_lines start ++ text_of_lines (lines_after 0 ts)) (sym c.as_slice.ensures.items)) refl
    (g.S.Sink.state c.print_turns.new.out) c.in_ok-print_start.ensures.all)
    c.print_turns.ensures.all

-- or a line of the turns is refused
pub returns-clause-part : goal.returns-clause-part
returns-clause-part g c =
    let trace = c.args.trace.now in
    let start : List Line = Start (user_assignments trace.first) ∷ mem_lines trace.first.writes in
    on_err_too c.print_turns.result _ _
    (rest_refused (g.S.Sink.state c.args.out.now) (g.S.Sink.state c.print_start.new.out) _ _ _ _
    (lines_joined start (lines_after 0 trace.turns)
    ∙ ap (λ ts. text_of_lines start ++ text_of_lines (lines_after 0 ts)) (sym c.as_slice.ensures.items)) refl
    (g.S.Sink.state c.print_turns.new.out) c.in_ok-print_start.ensures.all c.in_ok-print_start.ensures.kept)
    c.print_turns.ensures.part
