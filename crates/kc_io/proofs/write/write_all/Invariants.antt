use Rattle.std.proofs.Common.{◌≤◌, ◌-◌, take, length}
use Rattle.kc_io.specs.Sink.{SinkKept, Writes}
use Rattle.kc_io.proofs.write.write_all.Given as goal

-- the prefix up to here was added, and nothing was refused
abbrev pub invariant-loop-at : goal.invariant-loop-at
invariant-loop-at g l = record {
  within : l.at ≤ length l.piece;
  written : Writes (g.S.Sink.state l.initial.out) (g.S.Sink.state l.out) (take l.at l.piece);
  kept : SinkKept (g.S.Sink.state l.initial.out) (g.S.Sink.state l.out);
}

abbrev pub decreases-loop-at : goal.decreases-loop-at
decreases-loop-at g l = length l.piece - l.at
