use Rattle.std.proofs.Common.{◌∙◌}
use Rattle.kc_cert.specs.Code.{insn_at}
use Rattle.kc_cert.specs.Conditions.{is_node_counted}
use Rattle.kc_cert.specs.FirstRefusal.{of_insn}
use Rattle.kc_cert.specs.declared.certificate.Node.{Node}
use Rattle.kc_check.proofs.LoopLemmas.{tested-ended, tested-failed, tested-passed}
use Rattle.kc_check.proofs.counted.are_nodes_counted.Goals as goal

pub returns-then-not-is_counted_at : goal.returns-then-not-is_counted_at
returns-then-not-is_counted_at c =
    tested-failed (λ (n : Node). of_insn (is_node_counted c.args.table.now.cfg.now c.args.context.now.summary) c.args.context.now n
    (insn_at c.args.table.now.image.now n.site.at)) c.args.nodes.now c.loop-node.node-index
    c.node-item.result c.is_counted_at.result c.loop-node-test.true c.node-item.is c.is_counted_at.ensures c.if-not-is_counted_at.true
    ∙ c.loop-node.invariant

pub loop-node-preserved : goal.loop-node-preserved
loop-node-preserved c =
    tested-passed (λ (n : Node). of_insn (is_node_counted c.args.table.now.cfg.now c.args.context.now.summary) c.args.context.now n
    (insn_at c.args.table.now.image.now n.site.at)) c.args.nodes.now c.loop-node.node-index
    c.node-item.result c.is_counted_at.result c.loop-node-test.true c.node-item.is c.is_counted_at.ensures c.if-not-is_counted_at.false
    ∙ c.loop-node.invariant

pub returns : goal.returns
returns c =
    tested-ended (λ (n : Node). of_insn (is_node_counted c.args.table.now.cfg.now c.args.context.now.summary) c.args.context.now n
    (insn_at c.args.table.now.image.now n.site.at)) c.args.nodes.now c.loop-node.node-index
    c.loop-node-test.false
    ∙ c.loop-node.invariant
