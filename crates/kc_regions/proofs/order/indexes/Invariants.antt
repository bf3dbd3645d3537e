use Rattle.kc_regions.specs.Order.{AreUpTo}
use Rattle.kc_regions.proofs.order.indexes.Given as goal

abbrev pub invariant-loop-i : goal.invariant-loop-i
invariant-loop-i l = AreUpTo l.i l.order.items
