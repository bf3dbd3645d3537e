use Rattle.std.proofs.Common.{◌-◌}
use Rattle.kc_cert.proofs.HalvingLemmas.{Window}
use Rattle.kc_certform.specs.Numbers.{state_order}
use Rattle.kc_certform.specs.Written.{sorted_states}
use Rattle.kc_certform.proofs.written.Written.first_from.Given as goal

-- the sorted states before `low` are less than this one, and those from `high` on aren't
abbrev pub invariant-loop-low : goal.invariant-loop-low
invariant-loop-low l = Window state_order (sorted_states l.nodes l.self) l.state l.low l.high

abbrev pub decreases-loop-low : goal.decreases-loop-low
decreases-loop-low l = l.high - l.low
