use Rattle.std.proofs.Common.{◌≡◌, ◌*◌, length}
use Rattle.kc_frames.specs.Slots.{slot_count}
use Rattle.kc_state.specs.PartSteps.{changed_from}
use Rattle.kc_state.proofs.parts.redo_part.Given as goal

-- what is changed and the change of the rest are the change of all from the first on
abbrev pub invariant-loop-i : goal.invariant-loop-i
invariant-loop-i g l = record {
  count : length l.slots ≡ slot_count;
  whole : changed_from (g.C.PartChange.changed l.change) l.i l.slots
      ≡ changed_from (g.C.PartChange.changed l.change) (8 * l.part) l.initial.slots;
}
