use Rattle.std.proofs.Common.{◌-◌, map}
use Rattle.kc_cert.specs.Table.{key_order}
use Rattle.kc_cert.proofs.HalvingLemmas.{Window}
use Rattle.kc_cert.proofs.lookup.first_context.Given as goal

-- the keys before `low` are less than this one, and those from `high` on aren't
abbrev pub invariant-loop-low : goal.invariant-loop-low
invariant-loop-low l = Window key_order (map (λ c. c.key) l.contexts) l.key l.low l.high

abbrev pub decreases-loop-low : goal.decreases-loop-low
decreases-loop-low l = l.high - l.low
