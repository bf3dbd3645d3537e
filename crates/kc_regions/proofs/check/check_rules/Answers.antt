use Rattle.std.proofs.lemmas.Result.{IfOk-weaker, err_from_is_err_and}
use Rattle.kc_regions.proofs.CheckLemmas.{cross-rules, fault-tss}
use Rattle.kc_regions.proofs.check.check_rules.Goals as goal

pub returns-in_err-check_tss-clause-fault : goal.returns-in_err-check_tss-clause-fault
returns-in_err-check_tss-clause-fault c =
    let p = err_from_is_err_and c.from_residual-in_err-check_tss.result c.from_residual-in_err-check_tss.ensures.1 in
    rw (p.1, p.2) (fault-tss _ c.list-list.result.now _ c.list-list.ensures.list c.in_err-check_tss.ensures.fault
    c.in_ok-check_each.ensures.ok c.in_ok-check_each-2.ensures.ok c.in_ok-check_each-3.ensures.ok
    c.in_ok-check_cr3_values.ensures.ok
    c.in_err-check_tss.ensures.broken)

pub returns-clause-ok : goal.returns-clause-ok
returns-clause-ok c =
    IfOk-weaker c.check_each-6.result _ _ (λ x words. cross-rules _ c.list-list.result.now c.list-list.ensures.list
    c.in_ok-check_each.ensures.ok c.in_ok-check_each-2.ensures.ok c.in_ok-check_each-3.ensures.ok
    c.in_ok-check_cr3_values.ensures.ok
    c.in_ok-check_tss.ensures.ok c.in_ok-check_each-4.ensures.ok c.in_ok-check_gates.ensures.ok
    c.in_ok-check_each-5.ensures.ok words)
    c.check_each-6.ensures.ok
