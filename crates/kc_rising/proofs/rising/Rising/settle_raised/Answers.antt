-- each cell that is settled has no next value any more, and at the end none has one
use Rattle.std.proofs.Common.{◌≡◌, inl, inr, ℕ, ◌<◌, ◌∷◌, ◌++◌, [], None, false, map, take, length, sym, subst, ◌∙◌}
use Rattle.std.proofs.Common.{arith}
use Rattle.std.proofs.Math.Seq.{take-append_seam}
use Rattle.std.proofs.lemmas.List.{length-map, nil_from_length}
use Rattle.kc_rising.specs.Listed.{times, AreListed}
use Rattle.kc_rising.specs.Values.{has_risen, next_value, HasChanged}
use Rattle.kc_rising.proofs.ListedLemmas.{counted-more, last-marked, unmarked}
use Rattle.kc_rising.proofs.CellLemmas.{all-settled, popped, risen-changed, risen-gone, risen-other, rose-rank}
use Rattle.kc_rising.proofs.CellLemmas.{rose-same}
use Rattle.kc_rising.proofs.rising.Rising.settle_raised.Goals as goal

pub invariant_of-self : goal.invariant_of-self
invariant_of-self g c =
    let cells = c.loop-number.self-inside.cells.items in
    let new = c.settle_at.new.cells.items in
    let xs = c.pop.new.self.items in
    let x = c.in-Some.number in
    let nexts = map (λ z. z.next) cells in
    let listed : AreListed (xs ++ x ∷ []) (has_risen nexts) = λ n.
    (λ k. times (sym c.in-Some.ensures.items k) n) ∙ c.loop-number.invariant.listed n in
    popped xs x nexts (map (λ z. z.next) new) listed c.settle_at.ensures.nexts

pub invariant_of-self-in_err-add : goal.invariant_of-self-in_err-add
invariant_of-self-in_err-add g c =
    let cells = c.loop-number.self-inside.cells.items in
    let new = c.settle_at.new.cells.items in
    let xs = c.pop.new.self.items in
    let x = c.in-Some.number in
    let nexts = map (λ z. z.next) cells in
    let listed : AreListed (xs ++ x ∷ []) (has_risen nexts) = λ n.
    (λ k. times (sym c.in-Some.ensures.items k) n) ∙ c.loop-number.invariant.listed n in
    popped xs x nexts (map (λ z. z.next) new) listed c.settle_at.ensures.nexts

pub loop-number-preserved : goal.loop-number-preserved
loop-number-preserved g c =
    let first = c.self.inside.cells.items in
    let cells = c.loop-number.self-inside.cells.items in
    let new = c.settle_at.new.cells.items in
    let xs = c.pop.new.self.items in
    let x = c.in-Some.number in
    let nexts = map (λ z. z.next) cells in
    let after = map (λ z. z.next) new in
    let is = c.settle_at.ensures.nexts in
    let listed : AreListed (xs ++ x ∷ []) (has_risen nexts) = λ n.
    (λ k. times (sym c.in-Some.ensures.items k) n) ∙ c.loop-number.invariant.listed n in
    record {
      listed = popped xs x nexts after listed is;
      counted = counted-more (has_risen (map (λ z. z.next) first)) (has_risen nexts) (has_risen after)
          c.args.changed.now
          c.loop-number.changed c.add.new.self x c.loop-number.invariant.counted
          (last-marked xs x (has_risen nexts) listed) ((λ k. has_risen (is k) x) ∙ risen-gone nexts x)
          (λ n other. (λ k. has_risen (is k) n) ∙ risen-other nexts x n None other) c.in_ok-add.ensures.added;
      stays = c.settle_at.ensures.stays ∙ c.loop-number.invariant.stays;
      fresh = c.loop-number.invariant.fresh;
      length = c.settle_at.ensures.length ∙ c.loop-number.invariant.length;
      same = rose-same c.loop-number.rose c.in_ok-rose.field-0 _ _ _ c.loop-number.invariant.same
          c.in_ok-rose.ensures.same;
      rank = rose-rank c.loop-number.rose c.in_ok-rose.field-0 _ _ _ c.in_ok-rose.ensures.rank
          c.loop-number.invariant.rank;
    }

pub returns-clause-settled : goal.returns-clause-settled
returns-clause-settled g c =
    let first = c.self.inside.cells.items in
    let cells = c.loop-number.self-inside.cells.items in
    let fresh = c.self.inside.fresh.items in
    let empty : c.loop-number.self-inside.raised.items ≡ [] =
    nil_from_length c.loop-number.self-inside.raised.items (omega (arith, c.in_default.ensures.cases.0)) in
    let none : (n : ℕ) → has_risen (map (λ z. z.next) cells) n ≡ false = λ n.
    unmarked (has_risen (map (λ z. z.next) cells) n)
    (sym (c.loop-number.invariant.listed n) ∙ (λ k. times (empty k) n)) in
    let will = map (λ z. next_value z.value z.next) first in
    let count : length will ≡ length (map (λ z. z.value) first) =
    length-map first (λ z. next_value z.value z.next) ∙ sym (length-map first (λ z. z.value)) in
    all-settled (λ z. z.value) (λ z. z.next) cells none ∙ c.loop-number.invariant.stays
    ∙ sym (take-append_seam will fresh) ∙ (λ k. take (count k) (will ++ fresh))
    ∙ (λ k. take (length (c.self.view_is k).0) (c.self.view_is k).1)

pub returns-clause-listed : goal.returns-clause-listed
returns-clause-listed g c n =
    let first = c.self.inside.cells.items in
    let cells = c.loop-number.self-inside.cells.items in
    let empty : c.loop-number.self-inside.raised.items ≡ [] =
    nil_from_length c.loop-number.self-inside.raised.items (omega (arith, c.in_default.ensures.cases.0)) in
    let none : has_risen (map (λ z. z.next) cells) n ≡ false =
    unmarked (has_risen (map (λ z. z.next) cells) n)
    (sym (c.loop-number.invariant.listed n) ∙ (λ k. times (empty k) n)) in
    let at = c.loop-number.invariant.counted.counted n in
    let rose = risen-changed g.D.Domain.rank (λ z. z.value) (λ z. z.next) c.self.inside.fresh.items (λ z. z.rises) first
    n in
    let view = c.self.view_is in (
      (λ l. elim (at.0 l) [
        | inl p ↦ inl p
        | inr p ↦ inr (subst (λ v. (n < length v.0) × HasChanged v n) view (rose.0 p.0))
      ]),
      (λ s. at.1 (elim s [
        | inl p ↦ inl p
        | inr p ↦ inr (rose.1 (subst (λ v. (n < length v.0) × HasChanged v n) (sym view) p), none)
      ])),
    )
