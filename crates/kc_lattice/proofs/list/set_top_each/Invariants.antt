use Rattle.std.proofs.Common.{◌≡◌, ◌++◌, map, take, drop}
use Rattle.kc_lattice.proofs.list.set_top_each.Given as goal

-- what is done and the tops of the rest are all tops
abbrev pub invariant-loop-item : goal.invariant-loop-item
invariant-loop-item g l = let f = g.V.Domain.top_of in
    take l.item-index l.items ++ map f (drop l.item-index l.items) ≡ map f l.initial.items
