use Rattle.std.proofs.Common.{ℕ, List, ap, ◌∙◌}
use Rattle.std.proofs.lemmas.Result.{err_from_is_err_and}
use Rattle.std.specs.Prelude.{filter}
use Rattle.kc_state.specs.AbsEvents.{user_comes}
use Rattle.kc_cert.specs.FirstRefusal.{each}
use Rattle.kc_check.proofs.LoopLemmas.{vector-passed, vector-refused, vectors-ended}
use Rattle.kc_check.specs.User.{vector_refusal}
use Rattle.kc_check.proofs.user.check_vectors.Goals as goal

-- the table's vectors are those of the description in their order
pub loop-vector-init : goal.loop-vector-init
loop-vector-init c =
    let d = c.args.table.now.cfg.now in
    let cert = c.args.table.now.cert.now in
    ap (λ (l : List ℕ). each (vector_refusal d cert) (filter (user_comes d cert.user) l))
    c.args.table.now.vectors_in_order

pub check_vector-requires : goal.check_vector-requires
check_vector-requires c = record { events = c.user_events-events.ensures.value }

pub returns-in_err-check_vector : goal.returns-in_err-check_vector
returns-in_err-check_vector c =
    let p = err_from_is_err_and c.from_residual.result c.from_residual.ensures.1 in
    rw (p.1, p.2) (vector-refused (vector_refusal c.args.table.now.cfg.now c.args.table.now.cert.now)
    (user_comes c.args.table.now.cfg.now c.args.table.now.cert.now.user) c.as_slice-vector-items.result.now
    c.args.table.now.vectors c.as_slice-vector-items.ensures.items c.loop-vector.vector-index c.check_vector.result
    c.in_err-check_vector.field-0.0 c.loop-vector-test.true c.check_vector.ensures c.in_err-check_vector.was
    ∙ c.loop-vector.invariant)

pub loop-vector-preserved : goal.loop-vector-preserved
loop-vector-preserved c =
    vector-passed (vector_refusal c.args.table.now.cfg.now c.args.table.now.cert.now)
    (user_comes c.args.table.now.cfg.now c.args.table.now.cert.now.user) c.as_slice-vector-items.result.now
    c.args.table.now.vectors c.as_slice-vector-items.ensures.items c.loop-vector.vector-index c.check_vector.result
    c.loop-vector-test.true c.check_vector.ensures c.in_ok-check_vector.was
    ∙ c.loop-vector.invariant

pub returns : goal.returns
returns c =
    vectors-ended (vector_refusal c.args.table.now.cfg.now c.args.table.now.cert.now)
    (user_comes c.args.table.now.cfg.now c.args.table.now.cert.now.user) c.as_slice-vector-items.result.now
    c.args.table.now.vectors c.as_slice-vector-items.ensures.items c.loop-vector.vector-index c.loop-vector-test.false
    ∙ c.loop-vector.invariant
