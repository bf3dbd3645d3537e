use Rattle.std.proofs.Common.{◌≡◌, ◌*◌, length}
use Rattle.kc_frames.specs.Slots.{slot_count}
use Rattle.kc_state.specs.PartSteps.{changed_from}
use Rattle.kc_state.proofs.parts.visit_each.Given as goal

-- what is changed and the change of the rest are the change of all from the first part on
abbrev pub invariant-loop-part : goal.invariant-loop-part
invariant-loop-part g l = record {
  count : length l.slots ≡ slot_count;
  whole : changed_from (g.C.PartChange.changed l.change) (8 * l.part) l.slots
      ≡ changed_from (g.C.PartChange.changed l.change) (8 * l.from) l.initial.slots;
}
