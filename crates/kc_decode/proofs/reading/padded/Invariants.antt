use Rattle.std.proofs.Common.{◌≡◌, length}
use Rattle.kc_decode.specs.Reading.{padded_at}
use Rattle.kc_decode.proofs.reading.padded.Given as goal

abbrev pub invariant-loop-left : goal.invariant-loop-left
invariant-loop-left l = padded_at l.left ≡ padded_at l.bytes

abbrev pub decreases-loop-left : goal.decreases-loop-left
decreases-loop-left l = length l.left
