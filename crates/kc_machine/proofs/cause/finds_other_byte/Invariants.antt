use Rattle.std.proofs.Common.{ℕ, ◌<◌}
use Rattle.kc_exec.specs.Operand.{plus}
use Rattle.kc_machine.specs.JudgeSteps.{IsExecutable}
use Rattle.kc_machine.proofs.cause.finds_other_byte.Given as goal

-- the bytes so far lie in executable text
abbrev pub invariant-loop-i : goal.invariant-loop-i
invariant-loop-i l = (k : ℕ) → k < l.i → IsExecutable l.cfg (plus l.at k)
