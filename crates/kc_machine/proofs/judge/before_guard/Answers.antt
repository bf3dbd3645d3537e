use Rattle.std.proofs.Common.{sym}
use Rattle.kc_exec.specs.declared.access.Access.{Access}
use Rattle.kc_exec.specs.Execution.{guarded}
use Rattle.kc_machine.proofs.ListLemmas.{before-found, before-none}
use Rattle.kc_machine.proofs.judge.before_guard.Goals as goal

pub returns-in-Some : goal.returns-in-Some
returns-in-Some c =
    before-found (λ (a : Access). guarded c.args.cfg.now.regions a.at a.size) c.args.accesses.now c.in-Some.n
    (sym c.in-Some.ensures)

pub returns-in-None : goal.returns-in-None
returns-in-None c =
    before-none (λ (a : Access). guarded c.args.cfg.now.regions a.at a.size) c.args.accesses.now (sym c.in-None.ensures)
