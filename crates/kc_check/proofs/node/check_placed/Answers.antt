use Rattle.std.proofs.Common.{◌≡◌, Bool, ap, ◌∙◌}
use Rattle.std.proofs.lemmas.Result.{err_from_is_err_and}
use Rattle.kc_state.specs.AbsStep.{condition}
use Rattle.kc_cert.specs.Conditions.{are_successors_covered, is_text}
use Rattle.kc_cert.specs.FirstRefusal.{at_node, demand}
use Rattle.kc_cert.specs.Placed.{sites_after, successors}
use Rattle.kc_check.proofs.NodeLemmas.{covered-refused, events-decide, insn-refused, known-covered, text-refused}
use Rattle.kc_check.proofs.node.check_placed.Goals as goal

pub go_on-requires : goal.go_on-requires
go_on-requires c = record { stack = c.requires.stack }

pub check_events-requires : goal.check_events-requires
check_events-requires c = record { stack = c.requires.stack }

pub returns-in_err-demand : goal.returns-in_err-demand
returns-in_err-demand c =
    let t = c.args.table.now in
    let n = c.args.node.now in
    let q = c.args.p.now in
    let text : c.demand.result ≡ demand (is_text t.cfg.now q) (at_node n (condition 5)) =
    c.demand.ensures ∙ (λ i. demand (c.is_text.ensures.value i) (c.at_node.ensures i)) in
    let p = err_from_is_err_and c.from_residual.result c.from_residual.ensures.1 in
    rw (p.1, p.2) (text-refused t.image.now t.cfg.now t.cert.now c.args.context.now n q c.demand.result text
    c.in_err-demand.field-0.0 c.in_err-demand.was)

pub returns-in-Err : goal.returns-in-Err
returns-in-Err c =
    let t = c.args.table.now in
    let n = c.args.node.now in
    let q = c.args.p.now in
    let text : c.demand.result ≡ demand (is_text t.cfg.now q) (at_node n (condition 5)) =
    c.demand.ensures ∙ (λ i. demand (c.is_text.ensures.value i) (c.at_node.ensures i)) in
    insn-refused t.image.now t.cfg.now t.cert.now c.args.context.now n q c.demand.result text c.in_ok-demand.was
    c.in-Err.condition c.in-Err.ensures.goes c.at_node-in-Err.result c.at_node-in-Err.ensures

pub returns-in_err-demand-2 : goal.returns-in_err-demand-2
returns-in_err-demand-2 c =
    let t = c.args.table.now in
    let n = c.args.node.now in
    let q = c.args.p.now in
    let text : c.demand.result ≡ demand (is_text t.cfg.now q) (at_node n (condition 5)) =
    c.demand.ensures ∙ (λ i. demand (c.is_text.ensures.value i) (c.at_node.ensures i)) in
    let covers : c.demand-2.result ≡ demand (are_successors_covered t.cfg.now t.cert.now n.context q)
    (at_node n (condition 13)) =
    c.demand-2.ensures
    ∙ (λ i. demand (c.are_covered-covered.ensures i) (c.at_node-2.ensures i))
    ∙ ap (λ (b : Bool). demand b (at_node n (condition 13))) (known-covered t.cert.now n.context (successors t.cfg.now q)
    (sites_after q c.in-Ok.succ) c.go_on.new.out.out c.in-Ok.ensures.goes.1) in
    let p = err_from_is_err_and c.from_residual-in_err-demand-2.result c.from_residual-in_err-demand-2.ensures.1 in
    rw (p.1, p.2) (covered-refused t.image.now t.cfg.now t.cert.now c.args.context.now n q c.demand.result text
    c.in_ok-demand.was c.in-Ok.ensures.goes.0 c.demand-2.result covers c.in_err-demand-2.field-0.0 c.in_err-demand-2.was)

pub returns : goal.returns
returns c =
    let t = c.args.table.now in
    let n = c.args.node.now in
    let q = c.args.p.now in
    let text : c.demand.result ≡ demand (is_text t.cfg.now q) (at_node n (condition 5)) =
    c.demand.ensures ∙ (λ i. demand (c.is_text.ensures.value i) (c.at_node.ensures i)) in
    let covers : c.demand-2.result ≡ demand (are_successors_covered t.cfg.now t.cert.now n.context q)
    (at_node n (condition 13)) =
    c.demand-2.ensures
    ∙ (λ i. demand (c.are_covered-covered.ensures i) (c.at_node-2.ensures i))
    ∙ ap (λ (b : Bool). demand b (at_node n (condition 13))) (known-covered t.cert.now n.context (successors t.cfg.now q)
    (sites_after q c.in-Ok.succ) c.go_on.new.out.out c.in-Ok.ensures.goes.1) in
    events-decide t.image.now t.cfg.now t.cert.now c.args.context.now n q c.demand.result text c.in_ok-demand.was
    c.in-Ok.ensures.goes.0 c.demand-2.result covers c.check_events.result c.in_ok-demand-2.was c.check_events.ensures
