use Rattle.std.proofs.Common.{sym, ◌∙◌}
use Rattle.kc_trace.specs.Assignments.{is_equals}
use Rattle.kc_trace.proofs.CutLemmas.{before_found, before_none}
use Rattle.kc_trace.proofs.assignment.name_text.Goals as goal

pub returns-in-Some : goal.returns-in-Some
returns-in-Some c = before_found is_equals c.args.word.now c.in-Some.end (sym c.find.ensures ∙ c.in-Some.is)

pub returns-in-None : goal.returns-in-None
returns-in-None c = sym (before_none is_equals c.args.word.now (sym c.find.ensures ∙ c.in-None.is))
