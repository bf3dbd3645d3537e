use Rattle.std.proofs.Common.{List, Some, None, ap, sym, ◌∙◌, subst}
use Rattle.kc_exec.specs.declared.state.Activation.{Activation}
use Rattle.kc_exec.specs.declared.executed.Executed.{Executed}
use Rattle.kc_exec.specs.declared.state.State.{State}
use Rattle.kc_machine.specs.declared.end.StepEnd.{StepEnd}
use Rattle.kc_machine.specs.JudgeSteps.{IsLeastBesides, Concludes, cpu_after}
use Rattle.kc_machine.proofs.code.conclude.Goals as goal

pub break_besides-requires : goal.break_besides-requires
break_besides-requires c = (c.requires.changes.0, ap (λ (e : Executed). e.end) c.requires.changes.1)

pub returns-in-Some : goal.returns-in-Some
returns-in-Some c =
    let S = c.args.state.now in
    let done = c.args.done.now in
    let insn = c.args.insn.now in
    let cpu_is = c.processor_after-cpu.ensures ∙ ap (λ (xs : List Activation). cpu_after xs done)
    c.as_slice.ensures.items in
    let chain_is = c.as_slice-2.ensures.items in
    let least = subst (λ (X : Type 0). X) (λ i. IsLeastBesides (chain_is i) insn done.end (cpu_is i)
    (Some c.in-Some.number)) c.in-Some.ensures in
    subst (λ (e : StepEnd). Concludes S c.halt.new.state insn done e) (sym c.halt.ensures.end)
    (least, ap (λ (s : State). s.stopped) c.halt.ensures.state)

pub returns-in-None : goal.returns-in-None
returns-in-None c =
    let S = c.args.state.now in
    let done = c.args.done.now in
    let insn = c.args.insn.now in
    let cpu_is = c.processor_after-cpu.ensures ∙ ap (λ (xs : List Activation). cpu_after xs done)
    c.as_slice.ensures.items in
    let chain_is = c.as_slice-2.ensures.items in
    let least = subst (λ (X : Type 0). X) (λ i. IsLeastBesides (chain_is i) insn done.end (cpu_is i) None)
    c.in-None.ensures in
    (least, c.carry_out.ensures)
