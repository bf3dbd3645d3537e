use Rattle.std.proofs.Common.{◌≡◌, ◌∙◌}
use Rattle.std.proofs.lemmas.Result.{err_from_is_err_and}
use Rattle.kc_state.specs.AbsEffect.{moment_of}
use Rattle.kc_state.specs.AbsStep.{condition}
use Rattle.kc_state.specs.Conditions.{is_exact}
use Rattle.kc_cert.specs.Code.{insn_at}
use Rattle.kc_cert.specs.FirstRefusal.{at_node, demand}
use Rattle.kc_check.proofs.ContextLemmas.{context-stack, placed-stack}
use Rattle.kc_check.proofs.NodeLemmas.{exact-refused, none-decides, placed-decides}
use Rattle.kc_check.proofs.node.check_node.Goals as goal

pub check_placed-requires : goal.check_placed-requires
check_placed-requires c =
    let t = c.args.table.now in record {
      stack = placed-stack t.cfg.now c.args.context.now c.args.node.now (insn_at t.image.now c.args.node.now.site.at)
          c.in-Some.p c.in-Some.ensures
          (context-stack t.cfg.now t.cert.now c.args.node.now.context c.args.context.now t.form c.requires.named);
    }

pub returns-in_err-demand : goal.returns-in_err-demand
returns-in_err-demand c =
    let t = c.args.table.now in
    let n = c.args.node.now in
    let p = err_from_is_err_and c.from_residual.result c.from_residual.ensures.1 in
    let exact : c.demand.result ≡ demand (is_exact (moment_of t.cfg.now c.args.context.now.key n.state 0) n.site.inside)
    (at_node n (condition 4)) =
    c.demand.ensures ∙ (λ i. demand (c.is_exact_at-exact.ensures.value i) (c.at_node.ensures i)) in
    record {
      refusal = rw (p.1, p.2) (exact-refused t.image.now t.cfg.now t.cert.now c.args.context.now n c.demand.result exact
          c.in_err-demand.field-0.0 c.in_err-demand.was);
    }

pub returns-in-Some : goal.returns-in-Some
returns-in-Some c =
    let t = c.args.table.now in
    let n = c.args.node.now in
    let exact : c.demand.result ≡ demand (is_exact (moment_of t.cfg.now c.args.context.now.key n.state 0) n.site.inside)
    (at_node n (condition 4)) =
    c.demand.ensures ∙ (λ i. demand (c.is_exact_at-exact.ensures.value i) (c.at_node.ensures i)) in
    record {
      refusal = placed-decides t.image.now t.cfg.now t.cert.now c.args.context.now n c.demand.result exact
          c.in_ok-demand.was c.in-Some.p c.in-Some.ensures c.check_placed.result c.check_placed.ensures;
    }

pub returns-in-None : goal.returns-in-None
returns-in-None c =
    let t = c.args.table.now in
    let n = c.args.node.now in
    let exact : c.demand.result ≡ demand (is_exact (moment_of t.cfg.now c.args.context.now.key n.state 0) n.site.inside)
    (at_node n (condition 4)) =
    c.demand.ensures ∙ (λ i. demand (c.is_exact_at-exact.ensures.value i) (c.at_node.ensures i)) in
    record {
      refusal = none-decides t.image.now t.cfg.now t.cert.now c.args.context.now n c.demand.result exact
          c.in_ok-demand.was c.in-None.ensures c.at_node-in-None.result c.at_node-in-None.ensures;
    }
