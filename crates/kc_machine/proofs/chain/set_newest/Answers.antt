use Rattle.std.proofs.Common.{◌≡◌, ℕ, ◌-◌, length, slice_set, arith, ap, ◌∙◌}
use Rattle.kc_machine.proofs.ChainLemmas.{newest-set}
use Rattle.kc_machine.proofs.chain.set_newest.Goals as goal

pub returns-in-Some : goal.returns-in-Some
returns-in-Some c =
    let chain = c.args.chain.now in
    let last : c.in-Some.last ≡ length chain - 1 = omega arith in
    c.set.ensures.items ∙ ap (λ (k : ℕ). slice_set chain k c.args.activation) last ∙ newest-set chain c.args.activation
