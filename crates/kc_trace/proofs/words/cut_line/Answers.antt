use Rattle.std.proofs.Common.{sym, ◌∙◌}
use Rattle.kc_trace.proofs.CutLemmas.{lines_found, lines_last}
use Rattle.kc_trace.proofs.words.cut_line.Goals as goal

pub returns-in-Some-clause-lines : goal.returns-in-Some-clause-lines
returns-in-Some-clause-lines c =
    lines_found c.args.text.now c.in-Some.end c.requires.some (sym c.find.ensures ∙ c.in-Some.is)

pub returns-in-None-clause-lines : goal.returns-in-None-clause-lines
returns-in-None-clause-lines c = lines_last c.args.text.now c.requires.some (sym c.find.ensures ∙ c.in-None.is)
