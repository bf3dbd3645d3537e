use Rattle.std.proofs.Common.{◌≡◌, ℕ, ◌≤◌, List, length, subst, sym}
use Rattle.kc_exec.specs.declared.executed.Executed.{Executed}
use Rattle.kc_exec.proofs.ReadsLemmas.{few-reads}
use Rattle.kc_exec.proofs.execution.effect.Goals as goal

-- no row has more reads
pub returns-in-Some-clause-few : goal.returns-in-Some-clause-few
returns-in-Some-clause-few c =
    subst (λ (e : Executed). length e.reads ≤ 7) (sym c.run_row-done.ensures) (few-reads c.args.m.now c.args.insn.now)

pub returns-in_default-clause-few : goal.returns-in_default-clause-few
returns-in_default-clause-few c =
    subst (λ (e : Executed). length e.reads ≤ 7) (sym c.run_row-done.ensures) (few-reads c.args.m.now c.args.insn.now)
