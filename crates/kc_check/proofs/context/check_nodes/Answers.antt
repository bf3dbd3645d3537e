use Rattle.std.proofs.Common.{◌∙◌}
use Rattle.std.proofs.lemmas.Result.{err_from_is_err_and}
use Rattle.kc_cert.specs.FirstRefusal.{node_refusal}
use Rattle.kc_check.proofs.ContextLemmas.{node-names}
use Rattle.kc_check.proofs.LoopLemmas.{item-passed, item-refused, items-ended}
use Rattle.kc_check.proofs.context.check_nodes.Goals as goal

pub check_node-requires : goal.check_node-requires
check_node-requires c = record {
  named = node-names c.args.table.now.cert.now c.args.i c.loop-node.node-index c.node-item.result c.args.nodes.now
      c.args.context.now c.requires.nodes c.loop-node-test.true c.node-item.is c.requires.here;
}

pub returns-in_err-check_node : goal.returns-in_err-check_node
returns-in_err-check_node c =
    let p = err_from_is_err_and c.from_residual.result c.from_residual.ensures.1 in
    rw (p.1, p.2) (item-refused (node_refusal c.args.table.now.image.now c.args.table.now.cfg.now c.args.table.now.cert.now
    c.args.context.now) c.args.nodes.now c.loop-node.node-index c.node-item.result c.check_node.result
    c.in_err-check_node.field-0.0 c.loop-node-test.true c.node-item.is c.check_node.ensures.refusal c.in_err-check_node.was
    ∙ c.loop-node.invariant)

pub loop-node-preserved : goal.loop-node-preserved
loop-node-preserved c =
    item-passed (node_refusal c.args.table.now.image.now c.args.table.now.cfg.now c.args.table.now.cert.now
    c.args.context.now) c.args.nodes.now c.loop-node.node-index c.node-item.result c.check_node.result
    c.loop-node-test.true c.node-item.is c.check_node.ensures.refusal c.in_ok-check_node.was
    ∙ c.loop-node.invariant

pub returns : goal.returns
returns c =
    items-ended (node_refusal c.args.table.now.image.now c.args.table.now.cfg.now c.args.table.now.cert.now
    c.args.context.now) c.args.nodes.now c.loop-node.node-index c.loop-node-test.false
    ∙ c.loop-node.invariant
