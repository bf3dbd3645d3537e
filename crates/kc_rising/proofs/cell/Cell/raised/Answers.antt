-- the rank falls where the value doesn't cover what is joined
use Rattle.std.proofs.Common.{◌≡◌, ◌<◌, ◌∙◌, sym, subst}
use Rattle.kc_rising.proofs.JoinLemmas.{open-falls}
use Rattle.kc_rising.proofs.cell.Cell.raised.Goals as goal

pub returns-clause-rank : goal.returns-clause-rank
returns-clause-rank g c =
    let value = c.args.self.now.value in
    let by = c.args.by.now in
    let is : g.D.Domain.joined value by ≡ c.join.new.self =
    (λ i. g.D.Domain.joined (sym c.overwrite.ensures.value i) by) ∙ sym c.join.ensures.value in
    subst (λ x. g.D.Domain.rank x < g.D.Domain.rank value) is
    (open-falls g.met.D.Domain.laws value by c.tell-2.ensures.valid c.tell.ensures.valid
    (g.met.D.Kept.of_one_shape value by)
    c.requires.open)
