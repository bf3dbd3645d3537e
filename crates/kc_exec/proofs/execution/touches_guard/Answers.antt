use Rattle.std.proofs.Common.{◌≡◌, ◌+◌, ◌-◌, Bool, ◌||◌, arith, ap, ◌∙◌, sym}
use Rattle.kc_regions.specs.Permission.{in_guard}
use Rattle.kc_mem.specs.Memory.{next}
use Rattle.kc_exec.specs.Execution.{guarded}
use Rattle.kc_exec.proofs.GuardLemmas.{guarded-step}
use Rattle.kc_exec.proofs.execution.touches_guard.Goals as goal

-- this byte doesn't lie in a guard, so the rest decides
pub loop-preserved : goal.loop-preserved
loop-preserved c =
    let regions = c.args.cfg.now.regions in
    let a = c.loop.a in
    let rest = guarded regions (next a) (c.args.size - (c.loop.counter + 1)) in
    c.loop.invariant ∙ guarded-step regions a (c.args.size - c.loop.counter) (c.args.size - (c.loop.counter + 1))
    (omega arith)
    ∙ ap (λ (b : Bool). b || rest) (sym c.is_guard.ensures.is ∙ c.if-is_guard.false)
