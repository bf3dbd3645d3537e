-- the number is listed where the cell rises for the first time
use Rattle.std.proofs.Common.{◌≡◌, ◌<◌, None, true, false, cond, is_some, set, map, length, sym, ◌∙◌, arith}
use Rattle.std.proofs.lemmas.List.{map-set, length-map}
use Rattle.kc_rising.specs.Listed.{times}
use Rattle.kc_rising.specs.Values.{has_risen, next_value, raised_at}
use Rattle.kc_rising.proofs.ListedLemmas.{listed-push}
use Rattle.kc_rising.proofs.CellLemmas.{get_or-map, one_cell, raised-view, risen-at, risen-other, risen-same}
use Rattle.kc_rising.proofs.rising.Rising.raise_cell.Goals as goal

pub invariant_of-self-then-begins : goal.invariant_of-self-then-begins
invariant_of-self-then-begins g c n =
    let cells = c.self.inside.cells.items in
    let i = c.args.number in
    let x = c.index.result.now in
    let y = c.begin.new.self in
    let nexts = map (λ z. z.next) cells in
    let count : length (map (λ z. z.value) cells) ≡ length c.args.self.now.0 = λ k. length (c.self.view_is k).0 in
    let within : i < length cells = omega (arith, c.requires, length-map cells (λ z. z.value), count) in
    let first = c.begins.ensures.first c.if-begins.true in
    let before : has_risen nexts i ≡ false =
    (λ k. is_some (get_or-map cells (λ z. z.next) i x None within c.index.ensures k)) ∙ (λ k. is_some (first.0 k)) in
    let is = map-set (λ z. z.next) cells i y in
    let after : has_risen (map (λ z. z.next) (set cells i y)) i ≡ true =
    (λ k. has_risen (is k) i) ∙ risen-at nexts i y.next (omega (arith, within, length-map cells (λ z. z.next)))
    ∙ (λ k. is_some (c.begin.ensures.next k)) in
    (λ k. times (c.in_ok-push.ensures.items k) n)
    ∙ listed-push c.self.inside.raised.items i (has_risen nexts) (has_risen (map (λ z. z.next) (set cells i y)))
    c.self.invariant before after (λ m other. (λ k. has_risen (is k) m) ∙ risen-other nexts i m y.next other) n

pub invariant_of-self-else-begins : goal.invariant_of-self-else-begins
invariant_of-self-else-begins g c n =
    let cells = c.self.inside.cells.items in
    let i = c.args.number in
    let x = c.index_mut-else-begins.result.now in
    let y = c.raise_more.new.self in
    let nexts = map (λ z. z.next) cells in
    let count : length (map (λ z. z.value) cells) ≡ length c.args.self.now.0 = λ k. length (c.self.view_is k).0 in
    let within : i < length cells = omega (arith, c.requires, length-map cells (λ z. z.value), count) in
    let as_before : is_some y.next ≡ has_risen nexts i =
    c.raise_more.ensures.next
    ∙ (λ k. is_some (sym (get_or-map cells (λ z. z.next) i x None within c.index_mut-else-begins.ensures.value) k)) in
    c.self.invariant n
    ∙ (λ k. cond (sym (risen-same nexts i y.next as_before n) k) 1 0)
    ∙ (λ k. cond (has_risen (sym (map-set (λ z. z.next) cells i y) k) n) 1 0)

pub returns-in_ok-push-clause-raised : goal.returns-in_ok-push-clause-raised
returns-in_ok-push-clause-raised g c =
    let cells = c.self.inside.cells.items in
    let i = c.args.number in
    let by = c.args.by.now in
    let joined = g.D.Domain.joined in
    let x = c.index_mut.result.now in
    let y = c.begin.new.self in
    let count : length (map (λ z. z.value) cells) ≡ length c.args.self.now.0 = λ k. length (c.self.view_is k).0 in
    let within : i < length cells = omega (arith, c.requires, length-map cells (λ z. z.value), count) in
    let one = one_cell cells i c.index-then-begins.result.now x within c.index-then-begins.ensures
    c.index_mut.ensures.value in
    let other = one_cell cells i c.index.result.now x within c.index.ensures c.index_mut.ensures.value in
    let unrisen : x.next ≡ None = (λ k. (sym other k).next) ∙ (c.begins.ensures.first c.if-begins.true).0 in
    let rises : next_value y.value y.next ≡ joined (next_value x.value x.next) by =
    (λ k. next_value y.value (c.begin.ensures.next k)) ∙ c.in_ok-next.ensures.joined ∙ (λ k. joined (one k).value by)
    ∙ (λ k. joined (next_value x.value (sym unrisen k)) by) in
    raised-view cells i y x (λ z. z.value) (λ z. next_value z.value z.next) joined by c.self.inside.fresh.items within
    c.index_mut.ensures.value c.begin.ensures.value rises
    ∙ (λ k. ((c.self.view_is k).0, raised_at joined (c.self.view_is k).1 i by))

pub returns-else-begins-clause-raised : goal.returns-else-begins-clause-raised
returns-else-begins-clause-raised g c =
    let cells = c.self.inside.cells.items in
    let i = c.args.number in
    let by = c.args.by.now in
    let joined = g.D.Domain.joined in
    let x = c.index_mut-else-begins.result.now in
    let count : length (map (λ z. z.value) cells) ≡ length c.args.self.now.0 = λ k. length (c.self.view_is k).0 in
    let within : i < length cells = omega (arith, c.requires, length-map cells (λ z. z.value), count) in
    raised-view cells i c.raise_more.new.self x (λ z. z.value) (λ z. next_value z.value z.next) joined by
    c.self.inside.fresh.items within c.index_mut-else-begins.ensures.value c.raise_more.ensures.value
    c.raise_more.ensures.joined
    ∙ (λ k. ((c.self.view_is k).0, raised_at joined (c.self.view_is k).1 i by))
