use Rattle.std.proofs.Common.{◌≡◌, drop}
use Rattle.std.specs.List.{flat_map}
use Rattle.kc_certform.specs.Numbers.{floor_numbers}
use Rattle.kc_certform.proofs.OrderLemmas.{compared}
use Rattle.kc_certform.proofs.order.order_floors.Given as goal

-- those from i on decide
abbrev pub invariant-loop-i : goal.invariant-loop-i
invariant-loop-i l =
    compared (flat_map floor_numbers (drop l.i l.these)) (flat_map floor_numbers (drop l.i l.those))
    ≡ compared (flat_map floor_numbers l.these) (flat_map floor_numbers l.those)
