use Rattle.std.proofs.Common.{◌≡◌, ◌++◌, map, take, drop}
use Rattle.kc_state.specs.Calls.{tame}
use Rattle.kc_transfer.proofs.edits.tame_each.Given as goal

-- what is done and what comes of the rest is all
abbrev pub invariant-loop-item : goal.invariant-loop-item
invariant-loop-item l = take l.item-index l.items ++ map tame (drop l.item-index l.items) ≡ map tame l.initial.items
