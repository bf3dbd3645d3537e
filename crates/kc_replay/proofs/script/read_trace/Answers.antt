use Rattle.std.proofs.Common.{List, Result, Err, ◌∙◌, ap, sym, subst}
use Rattle.std.proofs.lemmas.Result.{err_from_is_err_and}
use Rattle.kc_trace.specs.declared.fault.TraceFault.{TraceFault}
use Rattle.kc_trace.specs.declared.line.Line.{Line}
use Rattle.kc_replay.specs.Script.{Reads}
use Rattle.kc_replay.proofs.ScriptLemmas.{read_fault}
use Rattle.kc_replay.proofs.script.read_trace.Goals as goal

pub returns-in_err-found : goal.returns-in_err-found
returns-in_err-found c =
    let exit = err_from_is_err_and c.from_residual.result c.from_residual.ensures.1 in
    record {
      reads =
          subst (λ (r : Result (List Line) TraceFault). Reads c.args.cfg.now c.args.text.now r)
          (sym (exit.1 ∙ ap Err exit.2))
          (read_fault c.args.cfg.now c.args.text.now c.in_err-found.field-0.0
          (λ n is. c.in_err-found.ensures.by_line n (ap Err is)) c.in_err-found.ensures.read);
    }
