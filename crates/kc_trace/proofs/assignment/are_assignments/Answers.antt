use Rattle.std.proofs.Common.{◌+◌, ◌&&◌, drop, ap, sym, ◌∙◌}
use Rattle.kc_trace.specs.Words.{texts}
use Rattle.kc_trace.specs.Assignments.{are_assignments}
use Rattle.kc_trace.proofs.EachLemmas.{form_step, absent}
use Rattle.kc_trace.proofs.assignment.are_assignments.Goals as goal

pub loop-i-preserved : goal.loop-i-preserved
loop-i-preserved c =
    let left = are_assignments c.args.setter (texts (drop (c.loop-i.i + 1) c.args.words.now)) in
    let step = form_step c.args.setter c.args.words.now c.loop-i.i absent c.is_new.result c.loop-i-test.true
    c.is_new.ensures in
    sym (step ∙ ap (λ b. b && left) c.if-not-is_new.false) ∙ c.loop-i.invariant

pub returns-then-not-is_new : goal.returns-then-not-is_new
returns-then-not-is_new c =
    let left = are_assignments c.args.setter (texts (drop (c.loop-i.i + 1) c.args.words.now)) in
    let step = form_step c.args.setter c.args.words.now c.loop-i.i absent c.is_new.result c.loop-i-test.true
    c.is_new.ensures in
    sym (sym c.loop-i.invariant ∙ step ∙ ap (λ b. b && left) c.if-not-is_new.true)
