use Rattle.std.proofs.Common.{sym, ◌∙◌, arith}
use Rattle.kc_certform.specs.Numbers.{value_numbers}
use Rattle.kc_certform.proofs.OrderLemmas.{values-even, item-same, item-decides}
use Rattle.kc_certform.proofs.order.order_values.Goals as goal

-- those at i differ
pub returns-then-is_ne-clause-order : goal.returns-then-is_ne-clause-order
returns-then-is_ne-clause-order c =
    item-decides value_numbers values-even c.args.these.now c.args.those.now c.loop-i.i c.index-these-i.result
    c.index-those-i.result c.order_value-order.result (omega (arith, c.loop-i-test.true, c.type_inv.these))
    (omega (arith, c.loop-i-test.true, c.type_inv.those)) c.order_value-order.ensures
    (sym c.is_ne.ensures ∙ c.if-is_ne.true)
    ∙ c.loop-i.invariant

-- they are the same
pub loop-i-preserved : goal.loop-i-preserved
loop-i-preserved c =
    item-same value_numbers values-even c.args.these.now c.args.those.now c.loop-i.i c.index-these-i.result
    c.index-those-i.result c.order_value-order.result (omega (arith, c.loop-i-test.true, c.type_inv.these))
    (omega (arith, c.loop-i-test.true, c.type_inv.those)) c.order_value-order.ensures
    (sym c.is_ne.ensures ∙ c.if-is_ne.false)
    ∙ c.loop-i.invariant
