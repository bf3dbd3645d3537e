use Rattle.std.proofs.Common.{◌∙◌, ap, Err}
use Rattle.std.proofs.lemmas.Result.{err_from_is_err_and}
use Rattle.kc_trace.proofs.FewLemmas.{few_turns, by_line}
use Rattle.kc_trace.proofs.gathered.read_lines.Goals as goal

pub returns-then-found-clause-few : goal.returns-then-found-clause-few
returns-then-found-clause-few c = few_turns c.args.text.now c.in_ok-found.found c.in_ok-found.ensures.read

pub returns-in_err-found-clause-by_line : goal.returns-in_err-found-clause-by_line
returns-in_err-found-clause-by_line c =
    let exit = err_from_is_err_and c.from_residual.result c.from_residual.ensures.1 in
    by_line c.args.text.now c.in_err-found.field-0.0 c.from_residual.result (exit.1 ∙ ap Err exit.2)
    c.in_err-found.ensures.read
