use Rattle.std.proofs.Common.{Bool, Option, None, sym, ap, ◌∙◌, subst}
use Rattle.std.specs.Prelude.{IfSome}
use Rattle.kc_state.specs.declared.summary.Summary.{Summary}
use Rattle.kc_check.specs.Events.{IsKept, first_failed}
use Rattle.kc_check.proofs.events.ask_first.Goals as goal

-- the same was asked before
pub returns-then-is_last-clause-kept : goal.returns-then-is_last-clause-kept
returns-then-is_last-clause-kept c =
    let same = c.is_last.ensures c.if-is_last.true in
    let holds : IsKept c.args.table.now.cfg.now c.args.p.now c.args.summary.now =
    subst (λ (o : Option Summary). IfSome o (IsKept c.args.table.now.cfg.now c.args.p.now)) same c.requires.last in
    c.requires.none ∙ sym (ap (λ (b : Bool). first_failed None b c.args.vector) holds)
