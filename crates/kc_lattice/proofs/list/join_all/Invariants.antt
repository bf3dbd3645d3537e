use Rattle.std.proofs.Common.{◌≡◌, take, fold}
use Rattle.kc_lattice.proofs.ListLemmas.{IsBound}
use Rattle.kc_lattice.proofs.list.join_all.Given as goal

abbrev pub invariant-loop-item : goal.invariant-loop-item
invariant-loop-item g l =
    let m = g.D.Domain in
    let xs = take l.item-index l.items in
    (l.total ≡ fold m.joined l.initial.total xs) × IsBound m.valid m.below l.initial.total xs l.total
