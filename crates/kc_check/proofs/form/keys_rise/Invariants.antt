use Rattle.std.proofs.Common.{map}
use Rattle.kc_cert.specs.Table.{key_order}
use Rattle.kc_check.proofs.ListLemmas.{StepsUp}
use Rattle.kc_check.proofs.form.keys_rise.Given as goal

-- each key so far is less than the next
abbrev pub invariant-loop-i : goal.invariant-loop-i
invariant-loop-i l = StepsUp key_order (map (λ c. c.key) l.contexts) l.i
