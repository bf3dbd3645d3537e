use Rattle.std.proofs.Common.{◌≡◌, drop}
use Rattle.kc_frames.specs.Slots.{redone}
use Rattle.kc_lattice.specs.Rows.{rows_below}
use Rattle.kc_value.specs.Value.{value_below}
use Rattle.kc_absevent.proofs.covered.are_slots_covered.Given as goal

-- what is left decides
abbrev pub invariant-loop-i : goal.invariant-loop-i
invariant-loop-i g l =
    rows_below value_below (redone (g.C.Becomes.changed l.change) l.i (drop l.i l.old)) (drop l.i l.slots)
    ≡ rows_below value_below (redone (g.C.Becomes.changed l.change) 0 l.old) l.slots
