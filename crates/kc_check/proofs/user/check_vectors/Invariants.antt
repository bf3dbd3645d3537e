use Rattle.std.proofs.Common.{◌≡◌, drop}
use Rattle.std.specs.Prelude.{filter}
use Rattle.kc_state.specs.AbsEvents.{user_comes}
use Rattle.kc_cert.specs.FirstRefusal.{each}
use Rattle.kc_cert.specs.Placed.{user_vectors}
use Rattle.kc_check.specs.User.{vector_refusal}
use Rattle.kc_check.proofs.user.check_vectors.Given as goal

-- what is left decides
abbrev pub invariant-loop-vector : goal.invariant-loop-vector
invariant-loop-vector l =
    let d = l.table.cfg.now in
    let cert = l.table.cert.now in
    each (vector_refusal d cert) (filter (user_comes d cert.user) (drop l.vector-index l.table.vectors))
    ≡ each (vector_refusal d cert) (user_vectors d cert.user)
