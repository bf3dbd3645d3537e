use Rattle.std.proofs.Common.{◌∷◌}
use Rattle.kc_trace.specs.declared.assignment.Assignment.TheVariants.{SetRip, SetFlags}
use Rattle.kc_trace_text.specs.Lines.{registers, edits}
use Rattle.kc_trace_text.proofs.LoopLemmas.{four_added, text_joined}
use Rattle.kc_trace_text.proofs.assignments.put_body.Goals as goal

-- the pieces one after the other
pub returns-clause-text : goal.returns-clause-text
returns-clause-text c =
    let set = c.args.set.now in
    four_added _ _ _ _ _ _ _ _ _ _ c.put_registers.ensures.text c.put_assignment.ensures.text
    c.put_assignment-2.ensures.text c.put_edits.ensures.text
    (text_joined (registers 0 set.regs) (SetRip set.rip ∷ SetFlags set.flags ∷ edits set.edit))
