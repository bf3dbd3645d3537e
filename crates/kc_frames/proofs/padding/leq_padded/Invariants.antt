use Rattle.std.proofs.Common.{◌≡◌, drop}
use Rattle.kc_lattice.specs.Rows.{rows_below}
use Rattle.kc_frames.specs.Slots.{slot_count}
use Rattle.kc_frames.specs.Padded.{padded}
use Rattle.kc_frames.proofs.padding.leq_padded.Given as goal

-- what is left decides
abbrev pub invariant-loop-i : goal.invariant-loop-i
invariant-loop-i g l =
    let f = g.V.Domain.below in
    let ours = padded slot_count l.rest l.these in
    let others = padded slot_count l.other l.those in
    rows_below f (drop l.i ours) (drop l.i others) ≡ rows_below f ours others
