use Rattle.std.proofs.Common.{◌≡◌, drop}
use Rattle.std.specs.List.{list_all}
use Rattle.kc_cert.specs.Code.{insn_at}
use Rattle.kc_cert.specs.Conditions.{is_node_counted}
use Rattle.kc_cert.specs.FirstRefusal.{of_insn, of_nodes}
use Rattle.kc_check.proofs.counted.are_nodes_counted.Given as goal

-- the nodes that are left decide
abbrev pub invariant-loop-node : goal.invariant-loop-node
invariant-loop-node l =
    list_all (λ n. of_insn (is_node_counted l.table.cfg.now l.context.summary) l.context n (insn_at l.table.image.now n.site.at))
    (drop l.node-index l.nodes)
    ≡ of_nodes l.table.image.now (is_node_counted l.table.cfg.now l.context.summary) l.context l.nodes
