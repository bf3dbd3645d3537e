use Rattle.std.proofs.Common.{◌≡◌, ◌∙◌}
use Rattle.std.proofs.lemmas.Result.{err_from_is_err_and}
use Rattle.kc_cert.specs.Conditions.{is_start_covered}
use Rattle.kc_cert.specs.FirstRefusal.{at_table, context_refusal, demand, each_from}
use Rattle.kc_check.proofs.WholeLemmas.{contexts-decide, user-refused}
use Rattle.kc_check.proofs.checker.check_from_start.Goals as goal
use Rattle.kc_check.specs.User.{user_refusal}

pub returns-in_err-check_user : goal.returns-in_err-check_user
returns-in_err-check_user c =
    let t = c.new-table.ensures in
    let p = err_from_is_err_and c.from_residual-in_err-check_user.result
    c.from_residual-in_err-check_user.ensures.1 in
    let start : c.demand.result ≡ demand (is_start_covered c.args.cfg.now c.args.cert.now) (at_table 3) =
    c.demand.ensures ∙ (λ i. demand (c.is_start_covered.ensures.value i) (c.at_table.ensures i)) in
    let user : c.check_user.result ≡ user_refusal c.args.cfg.now c.args.cert.now =
    c.check_user.ensures ∙ (λ i. user_refusal (t.cfg i) (t.cert i)) in
    rw (p.1, p.2) (user-refused c.args.image.now c.args.cfg.now c.args.cert.now c.demand.result c.check_user.result
    c.check_user.result start user c.in_err-check_user.field-0.0 c.in_ok-demand.was c.in_err-check_user.was)

pub returns : goal.returns
returns c =
    let t = c.new-table.ensures in
    let start : c.demand.result ≡ demand (is_start_covered c.args.cfg.now c.args.cert.now) (at_table 3) =
    c.demand.ensures ∙ (λ i. demand (c.is_start_covered.ensures.value i) (c.at_table.ensures i)) in
    let user : c.check_user.result ≡ user_refusal c.args.cfg.now c.args.cert.now =
    c.check_user.ensures ∙ (λ i. user_refusal (t.cfg i) (t.cert i)) in
    contexts-decide c.args.image.now c.args.cfg.now c.args.cert.now c.demand.result c.check_user.result
    c.check_contexts.result start user c.in_ok-demand.was c.in_ok-check_user.was
    (c.check_contexts.ensures
    ∙ (λ i. each_from (context_refusal (t.image i) (t.cfg i) (t.cert i)) 0 (t.cert i).contexts))
