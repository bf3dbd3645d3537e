use Rattle.kc_transfer.proofs.CoverLemmas.{ends_covered}
use Rattle.kc_transfer.proofs.StepForms.{after_formed}
use Rattle.kc_transfer.proofs.leave.leave_abs.Goals as goal

pub returns-clause-well_formed : goal.returns-clause-well_formed
returns-clause-well_formed c = λ h.
    after_formed c.args.cfg.now c.args.key.now c.args.state.now c.args.insn.now h

pub returns-clause-covers : goal.returns-clause-covers
returns-clause-covers c =
    ends_covered c.args.cfg.now c.args.key.now c.args.state.now c.args.insn.now c.leave_called.result
    c.leave_called.new.out c.tell.ensures.valid c.tell-2.ensures.valid c.leave_called.ensures.is
    c.leave_called.ensures.value
