use Rattle.std.proofs.Common.{◌≡◌, ◌+◌, max}
use Rattle.kc_state.specs.Access.{clear_bytes}
use Rattle.kc_state.proofs.access.clear_each.Given as goal

-- what is left decides
abbrev pub invariant-loop-left : goal.invariant-loop-left
invariant-loop-left l = clear_bytes l.cfg l.key l.floors (l.a + l.size) l.at l.left ≡ clear_bytes l.cfg l.key l.floors
    (l.a + l.size) l.a (max l.size 1)

abbrev pub decreases-loop-left : goal.decreases-loop-left
decreases-loop-left l = l.left
