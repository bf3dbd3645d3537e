use Rattle.std.proofs.Common.{◌≡◌, length, leb}
use Rattle.kc_decode.specs.Reading.{least_padded}
use Rattle.kc_decode.proofs.length.padded_within.Given as goal

abbrev pub invariant-loop-left : goal.invariant-loop-left
invariant-loop-left l = leb (least_padded l.left) l.room ≡ leb (least_padded l.bytes) l.limit

abbrev pub decreases-loop-left : goal.decreases-loop-left
decreases-loop-left l = length l.left
