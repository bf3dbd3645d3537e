-- The part of the refusals that is asked of the user state: its events in their order, then SYSCALL. This project's own.
use Rattle.std.specs.Prelude.{ℕ, Some, None, Result}
use Rattle.kc_regions.specs.Description.{Description}
use Rattle.kc_rules.specs.Rules.{◌>>=◌}
use Rattle.kc_cert.specs.Conditions.{is_user_event_covered}
use Rattle.kc_cert.specs.FirstRefusal.{at_user, demand, each}
use Rattle.kc_cert.specs.Placed.{user_vectors}
use Rattle.kc_cert.specs.declared.certificate.Certificate.{Certificate}
use Rattle.kc_cert.specs.declared.refusal.Event.TheVariants.{Vector, Syscall}
use Rattle.kc_cert.specs.declared.refusal.Refusal.{Refusal}

abbrev pub vector_refusal : Description → Certificate → ℕ → Result (Unit {0}) Refusal
vector_refusal d cert v = demand (is_user_event_covered d cert (Some v)) (at_user (Vector v))

abbrev pub user_refusal : Description → Certificate → Result (Unit {0}) Refusal
user_refusal d cert = do
  ok ← each (vector_refusal d cert) (user_vectors d cert.user)
  demand (is_user_event_covered d cert None) (at_user Syscall)
