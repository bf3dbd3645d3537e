use Rattle.std.proofs.Common.{◌≡◌, ℕ, ◌<◌, true}
use Rattle.kc_regions.specs.Permission.{permits}
use Rattle.kc_exec.specs.Operand.{plus}
use Rattle.kc_machine.proofs.judge.is_forbidden.Given as goal

-- the bytes so far are permitted
abbrev pub invariant-loop-i : goal.invariant-loop-i
invariant-loop-i l = (k : ℕ) → k < l.i → permits l.cfg l.cr3 l.access.touch (plus l.access.at k) ≡ true
