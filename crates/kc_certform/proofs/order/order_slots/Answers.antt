use Rattle.std.proofs.Common.{sym, ap, ◌∙◌, get_or, arith}
use Rattle.kc_value.specs.AbsValue.{AbsValue}
use Rattle.kc_certform.specs.Numbers.{value_numbers}
use Rattle.kc_certform.proofs.OrderLemmas.{compared, values-even, item-same, item-decides}
use Rattle.kc_certform.proofs.order.order_slots.Goals as goal

-- those at i differ
pub returns-then-is_ne : goal.returns-then-is_ne
returns-then-is_ne c =
    item-decides value_numbers values-even c.args.these.now c.args.those.now c.loop-i.i c.get.result.now
    c.get-in-loop-i.result.now c.order_value-order.result (omega (arith, c.loop-i-test.true, c.whole.ensures.count))
    (omega (arith, c.loop-i-test.true, c.whole-2.ensures.count)) (c.order_value-order.ensures
    ∙ ap (λ (v : AbsValue). compared (value_numbers v) (value_numbers c.get-in-loop-i.result.now))
    (c.get.ensures.value c.get.result.now)
    ∙ ap
    (λ (v : AbsValue). compared (value_numbers (get_or c.args.these.now c.loop-i.i c.get.result.now)) (value_numbers v))
    (c.get-in-loop-i.ensures.value c.get-in-loop-i.result.now))
    (sym c.is_ne.ensures ∙ c.if-is_ne.true)
    ∙ c.loop-i.invariant

-- they are the same
pub loop-i-preserved : goal.loop-i-preserved
loop-i-preserved c =
    item-same value_numbers values-even c.args.these.now c.args.those.now c.loop-i.i c.get.result.now
    c.get-in-loop-i.result.now c.order_value-order.result (omega (arith, c.loop-i-test.true, c.whole.ensures.count))
    (omega (arith, c.loop-i-test.true, c.whole-2.ensures.count)) (c.order_value-order.ensures
    ∙ ap (λ (v : AbsValue). compared (value_numbers v) (value_numbers c.get-in-loop-i.result.now))
    (c.get.ensures.value c.get.result.now)
    ∙ ap
    (λ (v : AbsValue). compared (value_numbers (get_or c.args.these.now c.loop-i.i c.get.result.now)) (value_numbers v))
    (c.get-in-loop-i.ensures.value c.get-in-loop-i.result.now))
    (sym c.is_ne.ensures ∙ c.if-is_ne.false)
    ∙ c.loop-i.invariant
