use Rattle.std.proofs.Common.{◌++◌, sym, ◌∙◌}
use Rattle.std.specs.List.{flat_map}
use Rattle.kc_certform.specs.Numbers.{value_numbers, rest_numbers, state_numbers}
use Rattle.kc_certform.proofs.OrderLemmas.{as-long, values-even, first-decides, rest-decides}
use Rattle.kc_certform.proofs.order.order_states.Goals as goal

-- the registers differ
pub returns-then-is_ne : goal.returns-then-is_ne
unfolding state_numbers
returns-then-is_ne c =
    let one = c.args.this.now in
    let other = c.args.that.now in
    record {
      order = first-decides (flat_map value_numbers one.regs) (flat_map value_numbers other.regs)
          (value_numbers one.flags ++ rest_numbers one) (value_numbers other.flags ++ rest_numbers other)
          c.order_values-order.result (as-long value_numbers values-even _ _ c.order_values-order.ensures.even)
          c.order_values-order.ensures.order (sym c.is_ne.ensures ∙ c.if-is_ne.true);
    }

-- the flags differ
pub returns-then-is_ne-2 : goal.returns-then-is_ne-2
unfolding state_numbers
returns-then-is_ne-2 c =
    let one = c.args.this.now in
    let other = c.args.that.now in
    record {
      order = first-decides (value_numbers one.flags) (value_numbers other.flags) (rest_numbers one)
          (rest_numbers other) c.order_value-order.result (values-even one.flags other.flags)
          c.order_value-order.ensures
          (sym c.is_ne-2.ensures ∙ c.if-is_ne-2.true)
          ∙ rest-decides (flat_map value_numbers one.regs) (flat_map value_numbers other.regs)
          (value_numbers one.flags ++ rest_numbers one) (value_numbers other.flags ++ rest_numbers other)
          c.order_values-order.result (as-long value_numbers values-even _ _ c.order_values-order.ensures.even)
          c.order_values-order.ensures.order (sym c.is_ne.ensures ∙ c.if-is_ne.false);
    }

-- the rest decides
pub returns : goal.returns
unfolding state_numbers
returns c =
    let one = c.args.this.now in
    let other = c.args.that.now in
    record {
      order = c.order_rest.ensures
          ∙ rest-decides (value_numbers one.flags) (value_numbers other.flags) (rest_numbers one) (rest_numbers other)
          c.order_value-order.result (values-even one.flags other.flags) c.order_value-order.ensures
          (sym c.is_ne-2.ensures ∙ c.if-is_ne-2.false)
          ∙ rest-decides (flat_map value_numbers one.regs) (flat_map value_numbers other.regs)
          (value_numbers one.flags ++ rest_numbers one) (value_numbers other.flags ++ rest_numbers other)
          c.order_values-order.result (as-long value_numbers values-even _ _ c.order_values-order.ensures.even)
          c.order_values-order.ensures.order (sym c.is_ne.ensures ∙ c.if-is_ne.false);
    }
