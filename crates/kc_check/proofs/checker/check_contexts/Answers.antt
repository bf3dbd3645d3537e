use Rattle.std.proofs.Common.{List, Some, sym, ap, ◌∙◌}
use Rattle.std.proofs.lemmas.Option.{slice_get-get_or}
use Rattle.std.proofs.lemmas.Result.{err_from_is_err_and}
use Rattle.std.specs.Prelude.{slice_get}
use Rattle.kc_cert.specs.FirstRefusal.{context_refusal}
use Rattle.kc_cert.specs.declared.certificate.Context.{Context}
use Rattle.kc_check.proofs.LoopLemmas.{numbered-passed, numbered-refused, numbered-ended}
use Rattle.kc_check.proofs.checker.check_contexts.Goals as goal

pub check_context-requires : goal.check_context-requires
check_context-requires c =
    let x = c.index-contexts-i.result in
    record {
      here = ap (λ (l : List Context). slice_get l c.loop-i.i) (sym c.as_slice-contexts.ensures.items)
          ∙ slice_get-get_or c.as_slice-contexts.result.now c.loop-i.i x c.loop-i-test.true
          ∙ ap (λ (y : Context). Some y) (sym c.index-contexts-i.is);
    }

pub returns-in_err-check_context : goal.returns-in_err-check_context
returns-in_err-check_context c =
    let p = err_from_is_err_and c.from_residual.result c.from_residual.ensures.1 in
    rw (p.1, p.2) (numbered-refused
    (context_refusal c.args.table.now.image.now c.args.table.now.cfg.now c.args.table.now.cert.now)
    c.as_slice-contexts.result.now c.args.table.now.cert.now.contexts c.as_slice-contexts.ensures.items c.loop-i.i
    c.index-contexts-i.result c.check_context.result c.in_err-check_context.field-0.0 c.loop-i-test.true
    c.index-contexts-i.is c.check_context.ensures c.in_err-check_context.was
    ∙ c.loop-i.invariant)

pub loop-i-preserved : goal.loop-i-preserved
loop-i-preserved c =
    numbered-passed (context_refusal c.args.table.now.image.now c.args.table.now.cfg.now c.args.table.now.cert.now)
    c.as_slice-contexts.result.now c.args.table.now.cert.now.contexts c.as_slice-contexts.ensures.items c.loop-i.i
    c.index-contexts-i.result c.check_context.result c.loop-i-test.true
    c.index-contexts-i.is c.check_context.ensures c.in_ok-check_context.was
    ∙ c.loop-i.invariant

pub returns : goal.returns
returns c =
    numbered-ended (context_refusal c.args.table.now.image.now c.args.table.now.cfg.now c.args.table.now.cert.now)
    c.as_slice-contexts.result.now c.args.table.now.cert.now.contexts c.as_slice-contexts.ensures.items c.loop-i.i
    c.loop-i-test.false
    ∙ c.loop-i.invariant
