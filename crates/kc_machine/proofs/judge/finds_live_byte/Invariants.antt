use Rattle.std.proofs.Common.{ℕ, ◌<◌}
use Rattle.kc_exec.specs.Live.{IsLive}
use Rattle.kc_exec.specs.Operand.{plus}
use Rattle.kc_machine.proofs.judge.finds_live_byte.Given as goal

-- no byte so far is live
abbrev pub invariant-loop-i : goal.invariant-loop-i
invariant-loop-i l = (k : ℕ) → k < l.i → ¬ IsLive l.cfg l.chain (plus l.at k)
