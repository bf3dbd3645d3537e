use Rattle.std.proofs.Common.{◌≡◌, ◌+◌, ◌*◌, length}
use Rattle.kc_frames.specs.Slots.{slot_count}
use Rattle.kc_state.specs.PartSteps.{changed_from}
use Rattle.kc_state.proofs.parts.redo_parts.Given as goal

-- what is changed and the change of the rest are the change of all from slot 40 on
abbrev pub invariant-loop-block : goal.invariant-loop-block
invariant-loop-block g l = record {
  count : length l.slots ≡ slot_count;
  whole : changed_from (g.C.PartChange.changed l.change) (64 * l.block + 40) l.slots
      ≡ changed_from (g.C.PartChange.changed l.change) 40 l.initial.slots;
}
