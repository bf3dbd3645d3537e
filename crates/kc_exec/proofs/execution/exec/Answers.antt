use Rattle.std.proofs.Common.{◌≡◌, false, rules, ap, ◌∙◌}
use Rattle.kc_exec.specs.declared.executed.Executed.{Executed}
use Rattle.kc_exec.specs.Moment.{Moment}
use Rattle.kc_exec.specs.Breaks.{effect}
use Rattle.kc_exec.specs.Execution.{moment, stops}
use Rattle.kc_exec.proofs.EndLemmas.{stopped-of, forbidden-of}
use Rattle.kc_exec.proofs.execution.exec.Goals as goal

-- no access has a byte in a guard, so the end is that of the effect
pub returns-in-Some-clause-forbidden : goal.returns-in-Some-clause-forbidden
returns-in-Some-clause-forbidden c =
    let m = moment c.args.cfg.now c.args.cpu.now c.args.latch.now c.args.mem.now.bytes c.args.len in
    let no : stops c.args.cfg.now c.list_accesses.new.log ≡ false = search rules in
    let changes = c.effect-done.ensures.changes ∙ ap (λ (at : Moment). effect at c.args.insn.now) c.new.ensures.value in
    λ n. forbidden-of _ m c.args.insn.now _ n no (ap (λ (e : Executed). e.end) changes)

pub returns-in_default-write-clause-forbidden : goal.returns-in_default-write-clause-forbidden
returns-in_default-write-clause-forbidden c =
    let m = moment c.args.cfg.now c.args.cpu.now c.args.latch.now c.args.mem.now.bytes c.args.len in
    let no : stops c.args.cfg.now c.list_accesses.new.log ≡ false = search rules in
    let changes = c.effect-done.ensures.changes ∙ ap (λ (at : Moment). effect at c.args.insn.now) c.new.ensures.value in
    λ n. forbidden-of _ m c.args.insn.now _ n no (ap (λ (e : Executed). e.end) changes)

pub returns-in_default-clause-stopped : goal.returns-in_default-clause-stopped
returns-in_default-clause-stopped c =
    let m = moment c.args.cfg.now c.args.cpu.now c.args.latch.now c.args.mem.now.bytes c.args.len in
    let no : stops c.args.cfg.now c.list_accesses.new.log ≡ false = search rules in
    let changes = c.effect-done.ensures.changes ∙ ap (λ (at : Moment). effect at c.args.insn.now) c.new.ensures.value in
    stopped-of _ m c.args.insn.now _ no (ap (λ (e : Executed). e.end) changes)

pub returns-in_default-clause-forbidden : goal.returns-in_default-clause-forbidden
returns-in_default-clause-forbidden c =
    let m = moment c.args.cfg.now c.args.cpu.now c.args.latch.now c.args.mem.now.bytes c.args.len in
    let no : stops c.args.cfg.now c.list_accesses.new.log ≡ false = search rules in
    let changes = c.effect-done.ensures.changes ∙ ap (λ (at : Moment). effect at c.args.insn.now) c.new.ensures.value in
    λ n. forbidden-of _ m c.args.insn.now _ n no (ap (λ (e : Executed). e.end) changes)
