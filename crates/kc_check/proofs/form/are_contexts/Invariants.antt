use Rattle.std.proofs.Common.{ℕ, ◌<◌}
use Rattle.std.specs.Prelude.{IfSome, slice_get}
use Rattle.kc_cert.specs.Form.{IsContext}
use Rattle.kc_check.proofs.form.are_contexts.Given as goal

-- the contexts so far have their form
abbrev pub invariant-loop-i : goal.invariant-loop-i
invariant-loop-i l = (k : ℕ) → k < l.i → IfSome (slice_get l.cert.contexts k) (IsContext l.cfg l.cert k)
