use Rattle.std.proofs.Common.{◌≡◌, ◌↔◌, map, drop}
use Rattle.kc_lattice.proofs.list.is_top_each.Given as goal

-- what is left decides
abbrev pub invariant-loop-item : goal.invariant-loop-item
invariant-loop-item g l =
    let f = g.V.Domain.top_of in
    (l.items ≡ map f l.items) ↔ (drop l.item-index l.items ≡ map f (drop l.item-index l.items))
