use Rattle.std.proofs.Common.{◌≡◌, drop}
use Rattle.kc_cert.specs.FirstRefusal.{each, node_refusal}
use Rattle.kc_check.proofs.context.check_nodes.Given as goal

-- what is left decides
abbrev pub invariant-loop-node : goal.invariant-loop-node
invariant-loop-node l =
    let ask = node_refusal l.table.image.now l.table.cfg.now l.table.cert.now l.context in
    each ask (drop l.node-index l.nodes) ≡ each ask l.nodes
