use Rattle.std.proofs.Common.{take}
use Rattle.std.specs.List.{flat_map}
use Rattle.kc_io.specs.Sink.{SinkKept, Writes}
use Rattle.kc_certform.specs.CertBytes.{context_bytes}
use Rattle.kc_certwrite.proofs.writer.write_each_context.Given as goal

-- the contexts up to here are written
abbrev pub invariant-loop-context : goal.invariant-loop-context
invariant-loop-context g l = record {
  written : Writes (g.S.Sink.state l.initial.out) (g.S.Sink.state l.out)
      (flat_map context_bytes (take l.context-index l.contexts));
  kept : SinkKept (g.S.Sink.state l.initial.out) (g.S.Sink.state l.out);
}
