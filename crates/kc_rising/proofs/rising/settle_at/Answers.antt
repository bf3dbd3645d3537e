-- the cell will be what it would be, and it has no next value
use Rattle.std.proofs.Common.{◌≡◌, ◌<◌, ◌+◌, sum_by, get_or, set, map, length, sym, ◌∙◌, arith}
use Rattle.std.proofs.Math.Seq.{map-set_same}
use Rattle.std.proofs.lemmas.List.{map-set}
use Rattle.kc_rising.specs.Values.{next_value}
use Rattle.kc_rising.proofs.CellLemmas.{sum-set, unrisen, weighed}
use Rattle.kc_rising.proofs.rising.settle_at.Goals as goal

pub returns-then-number-len-clause-nexts : goal.returns-then-number-len-clause-nexts
returns-then-number-len-clause-nexts g c =
    let cells = c.args.cells.now.items in
    map-set (λ z. z.next) cells c.args.number c.settle.new.self
    ∙ (λ k. set (map (λ z. z.next) cells) c.args.number (c.settle.ensures.next k))

pub returns-then-number-len-clause-stays : goal.returns-then-number-len-clause-stays
returns-then-number-len-clause-stays g c =
    let new = c.settle.new.self in
    let x = c.index_mut.result.now in
    map-set_same (λ z. next_value z.value z.next) c.args.cells.now.items c.args.number new x
    ((λ k. next_value new.value (c.settle.ensures.next k)) ∙ c.settle.ensures.value
    ∙ (λ k. next_value (c.index_mut.ensures.value k).value (c.index_mut.ensures.value k).next))

pub returns-then-number-len-clause-same : goal.returns-then-number-len-clause-same
returns-then-number-len-clause-same g c =
    let x = c.index_mut.result.now in
    unrisen c.settle.result x.next c.args.cells.now.items c.args.number c.settle.new.self x (λ z. z.value)
    c.settle.ensures.rose
    (c.settle.ensures.value ∙ (λ k. next_value (c.index_mut.ensures.value k).value x.next))

pub returns-then-number-len-clause-rank : goal.returns-then-number-len-clause-rank
returns-then-number-len-clause-rank g c =
    let cells = c.args.cells.now.items in
    let i = c.args.number in
    let rank = g.D.Domain.rank in
    let x = c.index_mut.result.now in
    let within : i < length cells = omega (arith, c.len.ensures, c.if-number-len.true) in
    let read : rank (get_or cells i x).value ≡ rank x.value = λ k. rank (sym c.index_mut.ensures.value k).value in
    weighed c.settle.result (rank c.settle.new.self.value) (rank x.value) _ _
    (sym (λ k. sum_by rank (map (λ z. z.value) (set cells i c.settle.new.self)) + read k)
    ∙ sum-set cells i c.settle.new.self x (λ z. z.value) rank within)
    c.settle.ensures.rank
