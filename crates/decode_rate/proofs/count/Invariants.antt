use Rattle.std.proofs.Common.{◌≤◌, ◌-◌, length}
use Rattle.decode_rate.specs.Run.{AreInstructions}
use Rattle.decode_rate.proofs.count.Given as goal

-- what was passed is instructions, each of a byte or more
abbrev pub invariant-loop-len : goal.invariant-loop-len
invariant-loop-len l = AreInstructions l.bytes l.instructions l.at × (l.at ≤ length l.bytes) × (l.instructions ≤ l.at)

abbrev pub decreases-loop-len : goal.decreases-loop-len
decreases-loop-len l = length l.bytes - l.at
