use Rattle.std.proofs.Common.{arith, refl, slice_index, ◌-◌}
use Rattle.kc_regions.proofs.OrderLemmas.{none-begun, none-left}
use Rattle.kc_regions.proofs.order.index_of.Goals as goal

pub returns-then-end-eq0-clause-none : goal.returns-then-end-eq0-clause-none
returns-then-end-eq0-clause-none c = none-begun c.args.list.now c.args.order.now c.args.a c.begun-end.result
    c.requires.order c.begun-end.ensures c.if-end-eq0.true

pub returns-else-holds-clause-none : goal.returns-else-holds-clause-none
returns-else-holds-clause-none c =
    let held = c.if-holds.ensures in
    none-left c.args.list.now c.args.order.now c.args.a c.begun-end.result
    (slice_index c.args.order.now (c.begun-end.result - 1))
    c.requires.regions c.requires.order c.begun-end.ensures (omega arith) refl (λ h. cc (held.1 h))
