use Rattle.std.proofs.Common.{◌≡◌, ◌-◌}
use Rattle.kc_exec.specs.Execution.{guarded}
use Rattle.kc_exec.proofs.execution.touches_guard.Given as goal

-- no byte so far lies in a guard
abbrev pub invariant-loop : goal.invariant-loop
invariant-loop l = guarded l.cfg.regions l.fn.at l.fn.size ≡ guarded l.cfg.regions l.a (l.fn.size - l.counter)
