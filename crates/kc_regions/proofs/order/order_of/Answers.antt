use Rattle.std.proofs.Common.{subst, sym, ap, ◌∙◌, length}
use Rattle.std.specs.List.Sorted.{IsPermutation}
use Rattle.kc_regions.proofs.OrderLemmas.{order-is, refilled}
use Rattle.kc_regions.specs.Order.{IsOrder}
use Rattle.kc_regions.proofs.order.order_of.Goals as goal

pub returns : goal.returns
returns c =
    let from = c.indexes-order.result.items in
    let to = c.sort.new.order in
    let is = c.as_mut_slice.ensures.value in
    subst (IsOrder c.args.list.now) (sym (refilled from to (c.sort.ensures.length ∙ ap length is)))
    (order-is c.args.list.now from to c.indexes-order.ensures
    (subst (λ xs. IsPermutation xs to) is c.sort.ensures.permutation) c.sort.ensures.rising)
