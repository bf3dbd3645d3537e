use Rattle.std.proofs.Common.{List, ap, sym, ◌∙◌}
use Rattle.kc_cpu.specs.declared.cpu.Cpu.{Cpu}
use Rattle.kc_exec.specs.declared.state.Activation.{Activation}
use Rattle.kc_events.specs.Turns.{newest}
use Rattle.kc_machine.specs.Chain.{with_newest}
use Rattle.kc_machine.proofs.ChainLemmas.{due-set, due-none}
use Rattle.kc_machine.proofs.chain.set_due.Goals as goal

pub returns-in-Some : goal.returns-in-Some
returns-in-Some c =
    let chain = c.args.chain.now in
    let is = sym (c.in-Some.ensures ∙ ap (λ (xs : List Activation). newest xs) c.as_slice.ensures.items) in
    c.set_newest.ensures
    ∙ ap (λ (d : Cpu). with_newest (record c.in-Some.activation.now { due = d }) chain) c.edit_cpu-edited.ensures
    ∙ due-set chain c.in-Some.activation.now c.args.edit.now is

pub returns-in-None : goal.returns-in-None
returns-in-None c =
    let chain = c.args.chain.now in
    let is = sym (c.in-None.ensures ∙ ap (λ (xs : List Activation). newest xs) c.as_slice.ensures.items) in
    due-none chain c.args.edit.now is
