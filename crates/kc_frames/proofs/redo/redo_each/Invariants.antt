use Rattle.std.proofs.Common.{◌≡◌, ◌++◌, length, take, drop}
use Rattle.kc_frames.specs.Slots.{slot_count, redone}
use Rattle.kc_frames.proofs.redo.redo_each.Given as goal

-- what is done and the change of the rest are the whole change
abbrev pub invariant-loop-i : goal.invariant-loop-i
invariant-loop-i g l = record {
  count : length l.slots ≡ slot_count;
  whole : take l.i l.slots ++ redone (g.C.Change.changed l.change) l.i (drop l.i l.slots)
      ≡ redone (g.C.Change.changed l.change) 0 l.initial.slots;
}
