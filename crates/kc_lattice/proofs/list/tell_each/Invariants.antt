use Rattle.std.proofs.Common.{take, All}
use Rattle.kc_lattice.proofs.list.tell_each.Given as goal

abbrev pub invariant-loop-item : goal.invariant-loop-item
invariant-loop-item g l = All g.V.Domain.valid (take l.item-index l.items)
