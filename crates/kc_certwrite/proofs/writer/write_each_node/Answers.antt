use Rattle.std.proofs.Common.{List, subst}
use Rattle.std.specs.List.{flat_map}
use Rattle.kc_io.specs.Sink.{Writes}
use Rattle.kc_cert.specs.declared.certificate.Node.{Node}
use Rattle.std.proofs.lemmas.Result.{err_from_is_err_and}
use Rattle.kc_certform.specs.CertBytes.{node_bytes}
use Rattle.kc_certwrite.proofs.WriteLemmas.{kept-both, kept-none, writes-none, each-more, each-refused, take-all}
use Rattle.kc_certwrite.proofs.writer.write_each_node.Goals as goal

pub loop-node-init : goal.loop-node-init
loop-node-init g c = record {
  written = writes-none (g.S.Sink.state c.args.out.now);
  kept = kept-none (g.S.Sink.state c.args.out.now);
}

pub loop-node-preserved : goal.loop-node-preserved
loop-node-preserved g c = record {
  written = each-more (node_bytes c.args.stacks) c.args.nodes.now c.loop-node.node-index c.node-item.result
      (g.S.Sink.state c.args.out.now) (g.S.Sink.state c.loop-node.out) (g.S.Sink.state c.write_node.new.out)
      c.loop-node-test.true c.node-item.is c.loop-node.invariant.written c.in_ok-write_node.ensures.all;
  kept = kept-both _ _ _ c.loop-node.invariant.kept c.in_ok-write_node.ensures.kept;
}

-- a node is refused
pub returns-in_err-write_node-clause-part : goal.returns-in_err-write_node-clause-part
returns-in_err-write_node-clause-part g c =
    let exit = err_from_is_err_and c.from_residual.result c.from_residual.ensures.1 in
    rw exit.1
    (each-refused (node_bytes c.args.stacks) c.args.nodes.now c.loop-node.node-index c.node-item.result
    (g.S.Sink.state c.args.out.now)
    (g.S.Sink.state c.loop-node.out) (g.S.Sink.state c.write_node.new.out) c.loop-node-test.true c.node-item.is
    c.loop-node.invariant.kept c.loop-node.invariant.written c.in_err-write_node.ensures.part)

-- all are written
pub returns-clause-all : goal.returns-clause-all
returns-clause-all g c =
    let old = g.S.Sink.state c.args.out.now in
    let now = g.S.Sink.state c.loop-node.out in
    subst (λ (xs : List Node). Writes old now (flat_map (node_bytes c.args.stacks) xs))
    (take-all c.loop-node.node-index c.args.nodes.now c.loop-node-test.false) c.loop-node.invariant.written
