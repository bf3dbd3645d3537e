use Rattle.std.proofs.Common.{◌≡◌, Option, Some, sym, ap, ◌∙◌}
use Rattle.kc_cert.specs.Conditions.{event_summary, holds_clobber, is_kept, summary_of}
use Rattle.kc_check.specs.Events.{first_failed}
use Rattle.kc_state.specs.declared.summary.Summary.{Summary}
use Rattle.kc_check.proofs.events.ask_return.Goals as goal

-- the context that is entered returns, with this summary
pub returns-in-Some-clause-kept : goal.returns-in-Some-clause-kept
returns-in-Some-clause-kept c =
    let t = c.args.table.now in
    let p = c.args.p.now in
    let there : Some c.in-Some.summary.now ≡ event_summary t.image.now t.cfg.now t.cert.now p c.args.vector =
    c.in-Some.ensures.value ∙ ap (summary_of t.image.now t.cert.now) (sym c.requires.entered) in
    c.ask_kept-next.ensures.kept
    ∙ ap (λ (o : Option Summary). first_failed c.args.asked.kept (is_kept t.cfg.now p o) c.args.vector) there

pub returns-in-Some-clause-counted : goal.returns-in-Some-clause-counted
returns-in-Some-clause-counted c =
    let t = c.args.table.now in
    let p = c.args.p.now in
    let there : Some c.in-Some.summary.now ≡ event_summary t.image.now t.cfg.now t.cert.now p c.args.vector =
    c.in-Some.ensures.value ∙ ap (summary_of t.image.now t.cert.now) (sym c.requires.entered) in
    c.counted_after-counted.ensures
    ∙ ap (λ (o : Option Summary). first_failed c.args.asked.counted (holds_clobber c.args.clobber.now o) c.args.vector)
    there
