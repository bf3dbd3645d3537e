use Rattle.std.proofs.Common.{List, subst}
use Rattle.std.specs.List.{flat_map}
use Rattle.kc_io.specs.Sink.{Writes}
use Rattle.kc_cert.specs.declared.certificate.Context.{Context}
use Rattle.std.proofs.lemmas.Result.{err_from_is_err_and}
use Rattle.kc_certform.specs.CertBytes.{context_bytes}
use Rattle.kc_certwrite.proofs.WriteLemmas.{kept-both, kept-none, writes-none, each-more, each-refused, take-all}
use Rattle.kc_certwrite.proofs.writer.write_each_context.Goals as goal

pub loop-context-init : goal.loop-context-init
loop-context-init g c = record {
  written = writes-none (g.S.Sink.state c.args.out.now);
  kept = kept-none (g.S.Sink.state c.args.out.now);
}

pub loop-context-preserved : goal.loop-context-preserved
loop-context-preserved g c = record {
  written = each-more context_bytes c.args.contexts.now c.loop-context.context-index c.context-item.result
      (g.S.Sink.state c.args.out.now) (g.S.Sink.state c.loop-context.out) (g.S.Sink.state c.write_context.new.out)
      c.loop-context-test.true c.context-item.is c.loop-context.invariant.written c.in_ok-write_context.ensures.all;
  kept = kept-both _ _ _ c.loop-context.invariant.kept c.in_ok-write_context.ensures.kept;
}

-- a context is refused
pub returns-in_err-write_context-clause-part : goal.returns-in_err-write_context-clause-part
returns-in_err-write_context-clause-part g c =
    let exit = err_from_is_err_and c.from_residual.result c.from_residual.ensures.1 in
    rw exit.1
    (each-refused context_bytes c.args.contexts.now c.loop-context.context-index c.context-item.result
    (g.S.Sink.state c.args.out.now) (g.S.Sink.state c.loop-context.out) (g.S.Sink.state c.write_context.new.out)
    c.loop-context-test.true c.context-item.is
    c.loop-context.invariant.kept c.loop-context.invariant.written c.in_err-write_context.ensures.part)

-- all are written
pub returns-clause-all : goal.returns-clause-all
returns-clause-all g c =
    let old = g.S.Sink.state c.args.out.now in
    let now = g.S.Sink.state c.loop-context.out in
    subst (λ (xs : List Context). Writes old now (flat_map context_bytes xs))
    (take-all c.loop-context.context-index c.args.contexts.now c.loop-context-test.false)
    c.loop-context.invariant.written
