use Rattle.std.proofs.Common.{sym, subst}
use Rattle.kc_state.specs.WellFormed.{IsStateWellFormed}
use Rattle.kc_absevent.proofs.CoverLemmas.{return_covered}
use Rattle.kc_absevent.proofs.ReturnForms.{returned_formed}
use Rattle.kc_absevent.proofs.after.after_return.Goals as goal

pub returns-clause-well_formed : goal.returns-clause-well_formed
returns-clause-well_formed c =
    let d = c.args.cfg.now in
    let key = c.args.key.now in
    λ h. subst (IsStateWellFormed d key) (sym c.put_back.ensures)
    (returned_formed d key c.args.state.now c.args.summary.now h)

pub returns-clause-covers : goal.returns-clause-covers
returns-clause-covers c =
    return_covered c.args.cfg.now c.args.key.now c.args.site.now c.args.state.now c.args.summary.now c.put_back.new.back
    c.tell.ensures.valid c.tell-2.ensures.valid c.put_back.ensures
