use Rattle.std.proofs.Common.{◌∙◌, ap, sym, ◌++◌, List, ℕ}
use Rattle.kc_trace.specs.declared.assignment.Assignment.TheVariants.{SetDueFlags}
use Rattle.kc_trace_text.proofs.LoopLemmas.{text_alone}
use Rattle.kc_trace_text.proofs.assignments.put_due_flags.Goals as goal

pub returns-in-Some-clause-text : goal.returns-in-Some-clause-text
returns-in-Some-clause-text c =
    let line : List ℕ = c.args.line.now.items in
    rw c.in-Some.is
    (c.put_assignment.ensures.text ∙ ap (λ t. line ++ t) (sym (text_alone (SetDueFlags c.in-Some.flags))))
