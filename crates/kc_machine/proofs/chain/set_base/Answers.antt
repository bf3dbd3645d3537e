use Rattle.std.proofs.Common.{List, ap, sym, ◌∙◌}
use Rattle.kc_exec.specs.declared.state.Activation.{Activation}
use Rattle.kc_events.specs.Turns.{newest}
use Rattle.kc_machine.proofs.ChainLemmas.{base-set, base-none}
use Rattle.kc_machine.proofs.chain.set_base.Goals as goal

pub returns-in-Some : goal.returns-in-Some
returns-in-Some c =
    let chain = c.args.chain.now in
    let is = sym (c.in-Some.ensures ∙ ap (λ (xs : List Activation). newest xs) c.as_slice.ensures.items) in
    c.set_newest.ensures ∙ base-set chain c.in-Some.activation.now c.args.base is

pub returns-in-None : goal.returns-in-None
returns-in-None c =
    let chain = c.args.chain.now in
    let is = sym (c.in-None.ensures ∙ ap (λ (xs : List Activation). newest xs) c.as_slice.ensures.items) in
    base-none chain c.args.base is
