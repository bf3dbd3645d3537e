use Rattle.std.proofs.Common.{◌++◌, refl, sym, ◌∙◌}
use Rattle.std.specs.List.{flat_map}
use Rattle.kc_certform.specs.Numbers.{value_numbers, floor_numbers, space_numbers}
use Rattle.kc_certform.proofs.OrderLemmas.{as-long, floors-even, first-decides, rest-decides}
use Rattle.kc_certform.proofs.order.order_rest.Goals as goal

-- the floors differ
pub returns-then-is_ne-2 : goal.returns-then-is_ne-2
returns-then-is_ne-2 c =
    let one = c.args.this.now in
    let other = c.args.that.now in
    let floors = flat_map floor_numbers one.floors.at in
    let others = flat_map floor_numbers other.floors.at in
    first-decides floors others (flat_map value_numbers one.slots) (flat_map value_numbers other.slots)
    c.order_floors-order.result (as-long floor_numbers floors-even _ _ c.order_floors-order.ensures.even)
    c.order_floors-order.ensures.order (sym c.is_ne-2.ensures ∙ c.if-is_ne-2.true)
    ∙ rest-decides (space_numbers one) (space_numbers other) (floors ++ flat_map value_numbers one.slots)
    (others ++ flat_map value_numbers other.slots) c.order_spaces-order.result refl c.order_spaces-order.ensures
    (sym c.is_ne.ensures ∙ c.if-is_ne.false)

-- the slots decide
pub returns : goal.returns
returns c =
    let one = c.args.this.now in
    let other = c.args.that.now in
    let floors = flat_map floor_numbers one.floors.at in
    let others = flat_map floor_numbers other.floors.at in
    c.order_slots.ensures
    ∙ rest-decides floors others (flat_map value_numbers one.slots) (flat_map value_numbers other.slots)
    c.order_floors-order.result (as-long floor_numbers floors-even _ _ c.order_floors-order.ensures.even)
    c.order_floors-order.ensures.order (sym c.is_ne-2.ensures ∙ c.if-is_ne-2.false)
    ∙ rest-decides (space_numbers one) (space_numbers other) (floors ++ flat_map value_numbers one.slots)
    (others ++ flat_map value_numbers other.slots) c.order_spaces-order.result refl c.order_spaces-order.ensures
    (sym c.is_ne.ensures ∙ c.if-is_ne.false)
