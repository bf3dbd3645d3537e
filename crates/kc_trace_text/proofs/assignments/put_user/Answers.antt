use Rattle.std.proofs.Common.{◌∙◌, ap, ◌++◌, ◌∷◌, []}
use Rattle.kc_trace.specs.declared.assignment.Assignment.TheVariants.{SetRip, SetFlags, SetCs, SetGs}
use Rattle.kc_trace_text.specs.Lines.{registers}
use Rattle.kc_trace_text.specs.Text.{text_of_assignment, text_of_assignments}
use Rattle.kc_trace_text.proofs.LoopLemmas.{five_added, text_joined, text_alone}
use Rattle.kc_trace_text.proofs.assignments.put_user.Goals as goal

-- the pieces one after the other
pub returns-clause-text : goal.returns-clause-text
returns-clause-text c =
    let set = c.args.set.now in
    five_added _ _ _ _ _ _ _ _ _ _ _ _ c.put_registers.ensures.text c.put_assignment.ensures.text
    c.put_assignment-2.ensures.text (rw c.from.ensures at c.put_assignment-3.ensures.text)
    c.put_assignment-4.ensures.text
    (text_joined (registers 0 set.regs) (SetRip set.rip ∷ SetFlags set.flags ∷ SetCs set.cs ∷ SetGs set.gs ∷ [])
    ∙ ap (λ t. text_of_assignments (registers 0 set.regs)
    ++ (text_of_assignment (SetRip set.rip) ++ (text_of_assignment (SetFlags set.flags)
    ++ (text_of_assignment (SetCs set.cs) ++ t)))) (text_alone (SetGs set.gs)))
