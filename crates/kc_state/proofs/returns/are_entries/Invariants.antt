use Rattle.std.proofs.Common.{◌≡◌, drop}
use Rattle.kc_state.specs.Conditions.{are_entries}
use Rattle.kc_state.proofs.returns.are_entries.Given as goal

-- what is left decides
abbrev pub invariant-loop-w : goal.invariant-loop-w
invariant-loop-w l = are_entries l.w (drop l.w l.regs) ≡ are_entries 0 l.regs
