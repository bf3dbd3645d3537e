use Rattle.std.proofs.Common.{◌≡◌, length}
use Rattle.kc_frames.specs.Slots.{slot_count}
use Rattle.kc_frames.specs.Padded.{padded}
use Rattle.kc_frames.proofs.padding.trim.Given as goal

abbrev pub invariant-loop-first : goal.invariant-loop-first
invariant-loop-first g l = record {
  value : padded slot_count l.rest l.first ≡ padded slot_count l.rest l.initial.first;
}

abbrev pub decreases-loop-first : goal.decreases-loop-first
decreases-loop-first g l = length l.first
