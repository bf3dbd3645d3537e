use Rattle.std.proofs.Common.{take}
use Rattle.std.specs.List.{flat_map}
use Rattle.kc_io.specs.Sink.{SinkKept, Writes}
use Rattle.kc_certform.specs.CertBytes.{node_bytes}
use Rattle.kc_certwrite.proofs.writer.write_each_node.Given as goal

-- the nodes up to here are written
abbrev pub invariant-loop-node : goal.invariant-loop-node
invariant-loop-node g l = record {
  written : Writes (g.S.Sink.state l.initial.out) (g.S.Sink.state l.out)
      (flat_map (node_bytes l.stacks) (take l.node-index l.nodes));
  kept : SinkKept (g.S.Sink.state l.initial.out) (g.S.Sink.state l.out);
}
