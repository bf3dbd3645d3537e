use Rattle.std.proofs.Common.{take, ◌+◌, ◌++◌, ◌∷◌, [], ◌≡◌, sym, ap, subst, ◌∙◌}
use Rattle.std.proofs.lemmas.List.Sums.{fold-append}
use Rattle.kc_lattice.proofs.ListLemmas.{take_read, bound_alike, IsBound-more}
use Rattle.kc_lattice.proofs.list.join_all.Goals as goal

-- and so alike what was joined so far
pub join-requires : goal.join-requires
join-requires g c =
    bound_alike g.met.D.Domain.laws c.args.total.now c.item-item.result c.loop-item.total
    (take c.loop-item.item-index c.args.items.now)
    c.tell-in-loop-item.ensures.valid (subst (g.D.Domain.alike c.args.total.now) (sym c.item-item.is)
    (c.requires c.loop-item.item-index c.item-item.result c.loop-item-test.true))
    c.loop-item.invariant.1

pub loop-item-preserved : goal.loop-item-preserved
loop-item-preserved g c =
    let m = g.D.Domain in
    let first = c.args.total.now in
    let x = c.item-item.result in
    let xs = take c.loop-item.item-index c.args.items.now in
    let now : take (c.loop-item.item-index + 1) c.args.items.now ≡ xs ++ x ∷ [] =
    take_read c.args.items.now c.loop-item.item-index x c.loop-item-test.true c.item-item.is in
    let alike = subst (m.alike first) (sym c.item-item.is)
    (c.requires c.loop-item.item-index x c.loop-item-test.true) in
    let more = IsBound-more g.met.D.Domain.laws first x c.loop-item.total xs c.tell-in-loop-item.ensures.valid alike
    c.loop-item.invariant.1 in
    rw (now, c.join.ensures.value) (
      ap (λ (z : _). m.joined z x) c.loop-item.invariant.0
          ∙ sym (fold-append m.joined first xs (x ∷ [])),
      more,
    )
