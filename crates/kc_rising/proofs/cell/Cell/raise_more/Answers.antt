-- a value that covers what is joined is its join
use Rattle.std.proofs.Common.{◌≡◌, sym, ◌∙◌}
use Rattle.kc_rising.specs.Values.{next_value}
use Rattle.kc_rising.proofs.JoinLemmas.{covered-joined}
use Rattle.kc_rising.proofs.cell.Cell.raise_more.Goals as goal

pub returns-in_default-clause-joined : goal.returns-in_default-clause-joined
returns-in_default-clause-joined g c =
    let value = c.args.self.now.value in
    let by = c.args.by.now in
    let is : next_value value c.args.self.now.next ≡ value = λ i. next_value value (c.in_default.is i) in
    let covers : g.D.Domain.joined value by ≡ value =
    covered-joined g.met.D.Domain.laws value by c.tell-in_default.ensures.valid c.tell.ensures.valid
    (g.met.D.Kept.of_one_shape value by) (c.requires.covered c.in_default.is) in
    is ∙ sym covers ∙ (λ i. g.D.Domain.joined (sym is i) by)
