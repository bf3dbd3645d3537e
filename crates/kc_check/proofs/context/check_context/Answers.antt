use Rattle.std.proofs.Common.{◌≡◌, ◌&&◌, List, ap, ◌∙◌}
use Rattle.std.proofs.lemmas.Result.{err_from_is_err_and}
use Rattle.kc_cert.specs.Conditions.{is_home_counted, is_node_counted, is_user_covered}
use Rattle.kc_cert.specs.FirstRefusal.{at_context, demand, each, node_refusal, of_nodes}
use Rattle.kc_cert.specs.Table.{nodes_of}
use Rattle.kc_cert.specs.declared.certificate.Node.{Node}
use Rattle.kc_check.proofs.ContextLemmas.{context-key, context-stack}
use Rattle.kc_check.proofs.NodeLemmas.{counted-refused, nodes-refused, returns-decide}
use Rattle.kc_check.proofs.context.check_context.Goals as goal

pub is_counted-counted-requires : goal.is_counted-counted-requires
is_counted-counted-requires c =
    let t = c.args.table.now in record {
      stack = context-stack t.cfg.now t.cert.now c.args.i c.args.context.now t.form c.requires.here;
      key = context-key t.cfg.now t.cert.now c.args.i c.args.context.now t.form c.requires.here;
    }

pub returns-in_err-check_nodes : goal.returns-in_err-check_nodes
returns-in_err-check_nodes c =
    let t = c.args.table.now in
    let i = c.args.i in
    let x = c.args.context.now in
    let own : c.nodes_of-nodes.result.now ≡ nodes_of t.cert.now i = c.nodes_of-nodes.ensures.value in
    let all : c.check_nodes.result ≡ each (node_refusal t.image.now t.cfg.now t.cert.now x) (nodes_of t.cert.now i) =
    c.check_nodes.ensures ∙ ap (λ (l : List Node). each (node_refusal t.image.now t.cfg.now t.cert.now x) l) own in
    let p = err_from_is_err_and c.from_residual.result c.from_residual.ensures.1 in
    rw (p.1, p.2) (nodes-refused t.image.now t.cfg.now t.cert.now i x c.check_nodes.result all
    c.in_err-check_nodes.field-0.0 c.in_err-check_nodes.was)

pub returns-in_err-demand : goal.returns-in_err-demand
returns-in_err-demand c =
    let t = c.args.table.now in
    let i = c.args.i in
    let x = c.args.context.now in
    let own : c.nodes_of-nodes.result.now ≡ nodes_of t.cert.now i = c.nodes_of-nodes.ensures.value in
    let all : c.check_nodes.result ≡ each (node_refusal t.image.now t.cfg.now t.cert.now x) (nodes_of t.cert.now i) =
    c.check_nodes.ensures ∙ ap (λ (l : List Node). each (node_refusal t.image.now t.cfg.now t.cert.now x) l) own in
    let counted : c.demand.result ≡ demand (is_home_counted t.cfg.now x
    && of_nodes t.image.now (is_node_counted t.cfg.now x.summary) x (nodes_of t.cert.now i)) (at_context i 16) =
    c.demand.ensures
    ∙ (λ k. demand (c.is_counted-counted.ensures k) (c.at_context.ensures k))
    ∙ ap (λ (l : List Node). demand (is_home_counted t.cfg.now x
    && of_nodes t.image.now (is_node_counted t.cfg.now x.summary) x l) (at_context i 16)) own in
    let p = err_from_is_err_and c.from_residual-in_err-demand.result c.from_residual-in_err-demand.ensures.1 in
    rw (p.1, p.2) (counted-refused t.image.now t.cfg.now t.cert.now i x c.check_nodes.result all c.in_ok-check_nodes.was
    c.demand.result counted c.in_err-demand.field-0.0 c.in_err-demand.was)

pub returns : goal.returns
returns c =
    let t = c.args.table.now in
    let i = c.args.i in
    let x = c.args.context.now in
    let own : c.nodes_of-nodes.result.now ≡ nodes_of t.cert.now i = c.nodes_of-nodes.ensures.value in
    let all : c.check_nodes.result ≡ each (node_refusal t.image.now t.cfg.now t.cert.now x) (nodes_of t.cert.now i) =
    c.check_nodes.ensures ∙ ap (λ (l : List Node). each (node_refusal t.image.now t.cfg.now t.cert.now x) l) own in
    let counted : c.demand.result ≡ demand (is_home_counted t.cfg.now x
    && of_nodes t.image.now (is_node_counted t.cfg.now x.summary) x (nodes_of t.cert.now i)) (at_context i 16) =
    c.demand.ensures
    ∙ (λ k. demand (c.is_counted-counted.ensures k) (c.at_context.ensures k))
    ∙ ap (λ (l : List Node). demand (is_home_counted t.cfg.now x
    && of_nodes t.image.now (is_node_counted t.cfg.now x.summary) x l) (at_context i 16)) own in
    returns-decide t.image.now t.cfg.now t.cert.now i x c.check_nodes.result all c.in_ok-check_nodes.was c.demand.result
    counted c.demand-2.result c.in_ok-demand.was
    (c.demand-2.ensures
    ∙ (λ k. demand (c.are_returns_covered-covered.ensures k) (c.at_context-2.ensures k))
    ∙ ap (λ (l : List Node). demand (of_nodes t.image.now (is_user_covered t.cert.now) x l) (at_context i 17)) own)
