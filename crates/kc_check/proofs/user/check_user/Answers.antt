use Rattle.std.proofs.Common.{None, ◌∙◌}
use Rattle.std.proofs.lemmas.Result.{err_from_is_err_and}
use Rattle.kc_cert.specs.Conditions.{is_user_event_covered}
use Rattle.kc_cert.specs.FirstRefusal.{at_user, demand, each}
use Rattle.kc_cert.specs.Placed.{user_vectors}
use Rattle.kc_cert.specs.declared.refusal.Event.TheVariants.{Syscall}
use Rattle.kc_check.proofs.EachLemmas.{row-passed, row-refused}
use Rattle.kc_check.proofs.user.check_user.Goals as goal
use Rattle.kc_check.specs.User.{vector_refusal}

pub returns-in_err-check_vectors : goal.returns-in_err-check_vectors
returns-in_err-check_vectors c =
    let d = c.args.table.now.cfg.now in
    let cert = c.args.table.now.cert.now in
    let p = err_from_is_err_and c.from_residual.result c.from_residual.ensures.1 in
    rw (p.1, p.2) (row-refused (each (vector_refusal d cert) (user_vectors d cert.user))
    (demand (is_user_event_covered d cert None) (at_user Syscall)) c.check_vectors.result c.check_vectors.ensures
    c.in_err-check_vectors.field-0.0 c.in_err-check_vectors.was)

pub returns : goal.returns
returns c =
    let d = c.args.table.now.cfg.now in
    let cert = c.args.table.now.cert.now in
    row-passed (each (vector_refusal d cert) (user_vectors d cert.user))
    (demand (is_user_event_covered d cert None) (at_user Syscall)) c.check_vectors.result c.check_vectors.ensures
    c.demand.result c.in_ok-check_vectors.was
    (c.demand.ensures ∙ (λ i. demand (c.is_entry_covered-covered.ensures i) (c.at_user.ensures i)))
