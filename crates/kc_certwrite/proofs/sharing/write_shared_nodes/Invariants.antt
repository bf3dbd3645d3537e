use Rattle.std.proofs.Common.{length, take}
use Rattle.std.specs.List.{flat_map, zip}
use Rattle.kc_io.specs.Sink.{SinkKept, Writes}
use Rattle.kc_certwrite.specs.ShareSteps.{shared_text}
use Rattle.kc_certwrite.proofs.sharing.write_shared_nodes.Given as goal

-- the nodes up to here are written
abbrev pub invariant-loop-node : goal.invariant-loop-node
invariant-loop-node g l = record {
  written : Writes (g.S.Sink.state l.initial.out) (g.S.Sink.state l.out)
      (flat_map (shared_text l.stacks) (take (length l.yielded) (zip l.nodes l.shares)));
  kept : SinkKept (g.S.Sink.state l.initial.out) (g.S.Sink.state l.out);
}
