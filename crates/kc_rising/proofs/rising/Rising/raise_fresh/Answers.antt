-- the values that came follow those of the cells
use Rattle.std.proofs.Common.{◌≡◌, ◌+◌, ◌++◌, length, map, sym, ◌∙◌}
use Rattle.std.proofs.lemmas.List.{length-map}
use Rattle.kc_rising.specs.Values.{next_value, raised_at}
use Rattle.kc_rising.proofs.CellLemmas.{raised-fresh}
use Rattle.kc_rising.proofs.rising.Rising.raise_fresh.Goals as goal

pub returns : goal.returns
returns g c =
    let cells = c.self.inside.cells.items in
    let fresh = c.self.inside.fresh.items in
    let will = map (λ z. next_value z.value z.next) cells in
    let stood = map (λ z. z.value) cells in
    let by = c.args.by.now in
    let joined = g.D.Domain.joined in
    let n = length stood in
    let same : length will ≡ n =
    length-map cells (λ z. next_value z.value z.next) ∙ sym (length-map cells (λ z. z.value)) in
    let is = c.raise_one.ensures in
    (λ k. (stood, will ++ is k)) ∙ (λ k. (stood, raised-fresh will fresh n c.args.at joined by same k))
    ∙ (λ k. ((c.self.view_is k).0, raised_at joined (c.self.view_is k).1 (length (c.self.view_is k).0 + c.args.at) by))
