use Rattle.std.proofs.Common.{◌≡◌, map}
use Rattle.kc_rising.proofs.rising.Rising.into_values.Given as goal

-- a value for each cell so far
abbrev pub invariant-loop-cell : goal.invariant-loop-cell
invariant-loop-cell g l = l.values.items ≡ map (λ c. c.value) l.yielded
