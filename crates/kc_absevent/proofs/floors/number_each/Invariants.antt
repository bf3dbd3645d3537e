use Rattle.std.proofs.Common.{◌≡◌, ◌++◌, map, take, drop}
use Rattle.kc_state.specs.AbsDelivery.{numbered}
use Rattle.kc_absevent.proofs.floors.number_each.Given as goal

-- what is done and what comes of the rest is all
abbrev pub invariant-loop-floor : goal.invariant-loop-floor
invariant-loop-floor l =
    take l.floor-index l.floors ++ map (numbered l.base) (drop l.floor-index l.floors)
    ≡ map (numbered l.base) l.initial.floors
