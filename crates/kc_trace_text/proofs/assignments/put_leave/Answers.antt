use Rattle.std.proofs.Common.{◌∙◌, ap, ◌++◌, ◌∷◌, []}
use Rattle.kc_trace.specs.declared.assignment.Assignment.TheVariants.{SetFlags}
use Rattle.kc_trace_text.specs.Lines.{scratch_registers}
use Rattle.kc_trace_text.specs.Text.{text_of_assignments}
use Rattle.kc_trace_text.proofs.LoopLemmas.{then_added, text_joined, text_alone}
use Rattle.kc_trace_text.proofs.assignments.put_leave.Goals as goal

-- the pieces one after the other
pub returns-clause-text : goal.returns-clause-text
returns-clause-text c =
    let set = c.args.set.now in
    then_added _ _ _ _ _ _ c.put_scratch.ensures.text c.put_assignment.ensures.text
    (text_joined (scratch_registers 0 set.regs) (SetFlags set.flags ∷ [])
    ∙ ap (λ t. text_of_assignments (scratch_registers 0 set.regs) ++ t) (text_alone (SetFlags set.flags)))
