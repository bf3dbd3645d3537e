use Rattle.std.proofs.Common.{◌≡◌, ◌≤◌, drop}
use Rattle.kc_state.specs.Marks.{marks_of}
use Rattle.kc_state.specs.MarkWalk.{marks_left}
use Rattle.kc_state.proofs.slot_words.marks_of.Given as goal

-- what is left decides
abbrev pub invariant-loop-region : goal.invariant-loop-region
invariant-loop-region l = (l.found.stacks ≤ l.region-index)
    × (marks_left l.found (drop l.region-index l.list) ≡ marks_of l.cfg)
