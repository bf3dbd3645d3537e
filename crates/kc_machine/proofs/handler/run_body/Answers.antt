use Rattle.std.proofs.Common.{◌≡◌, ℕ, Ok, arith, ap, sym, ◌∙◌, subst}
use Rattle.kc_exec.specs.declared.state.State.{State}
use Rattle.kc_exec.specs.Operand.{plus}
use Rattle.kc_events.specs.Edits.{edited_words}
use Rattle.kc_events.specs.Attempt.{body_step, frame_of}
use Rattle.kc_machine.specs.declared.end.StepEnd.{StepEnd}
use Rattle.kc_machine.specs.Ends.{Ends, listed}
use Rattle.kc_machine.specs.JudgeSteps.{BreaksByAccess}
use Rattle.kc_machine.proofs.GoLemmas.{listed-judged}
use Rattle.kc_machine.proofs.EnterLemmas.{ends-judged}
use Rattle.kc_machine.proofs.BodyLemmas.{body-trial, body-carried}
use Rattle.kc_machine.proofs.handler.run_body.Goals as goal

pub returns-in-Some-clause-end : goal.returns-in-Some-clause-end
returns-in-Some-clause-end c =
    let cfg = c.args.cfg.now in
    let S = c.args.state.now in
    let set = c.args.set.now in
    let frame = frame_of cfg c.args.call.now in
    let t = body_step S set frame in
    let words_is : c.list_edits-words.result.items ≡ edited_words frame set.edit =
    c.list_edits-words.ensures.words ∙ ap (λ (n : ℕ). edited_words (plus c.args.call.now.rsp n) set.edit)
    c.frame_place.ensures in
    let trial = body-trial cfg S set frame c.as_slice.result.now c.items.result.now c.as_slice-2.result.now
    c.as_slice-3.result.now (omega arith)
    c.as_slice.ensures.items (c.items.ensures.items ∙ c.read_at-reads.ensures) c.as_slice-2.ensures.items
    (c.as_slice-3.ensures.value ∙ words_is) in
    subst (λ (e : StepEnd). Ends cfg S t (λ b. BreaksByAccess cfg S t b) c.halt.new.state (Ok e))
    (sym c.halt.ensures.end)
    (ends-judged cfg S t c.in-Some.end c.halt.new.state (c.in-Some.ensures S t trial)
    (ap (λ (s : State). s.stopped) c.halt.ensures.state))

pub returns-in-Some-clause-accesses : goal.returns-in-Some-clause-accesses
returns-in-Some-clause-accesses c =
    let cfg = c.args.cfg.now in
    let S = c.args.state.now in
    let set = c.args.set.now in
    let frame = frame_of cfg c.args.call.now in
    let t = body_step S set frame in
    let words_is : c.list_edits-words.result.items ≡ edited_words frame set.edit =
    c.list_edits-words.ensures.words ∙ ap (λ (n : ℕ). edited_words (plus c.args.call.now.rsp n) set.edit)
    c.frame_place.ensures in
    let trial = body-trial cfg S set frame c.as_slice.result.now c.items.result.now c.as_slice-2.result.now
    c.as_slice-3.result.now (omega arith)
    c.as_slice.ensures.items (c.items.ensures.items ∙ c.read_at-reads.ensures) c.as_slice-2.ensures.items
    (c.as_slice-3.ensures.value ∙ words_is) in
    c.read_at-reads.ensures ∙ listed-judged cfg S t t.accesses c.in-Some.end (c.in-Some.ensures S t trial)
    ∙ ap (λ (e : StepEnd). listed t.accesses e) (sym c.halt.ensures.end)

pub returns-in_ok-carry_out-in-None-clause-end : goal.returns-in_ok-carry_out-in-None-clause-end
returns-in_ok-carry_out-in-None-clause-end c =
    let cfg = c.args.cfg.now in
    let S = c.args.state.now in
    let set = c.args.set.now in
    let frame = frame_of cfg c.args.call.now in
    let t = body_step S set frame in
    let words_is : c.list_edits-words.result.items ≡ edited_words frame set.edit =
    c.list_edits-words.ensures.words ∙ ap (λ (n : ℕ). edited_words (plus c.args.call.now.rsp n) set.edit)
    c.frame_place.ensures in
    let trial = body-trial cfg S set frame c.as_slice.result.now c.items.result.now c.as_slice-2.result.now
    c.as_slice-3.result.now (omega arith)
    c.as_slice.ensures.items (c.items.ensures.items ∙ c.read_at-reads.ensures) c.as_slice-2.ensures.items
    (c.as_slice-3.ensures.value ∙ words_is) in (
      c.in-None.ensures S t trial,
      body-carried S c.carry_out.new.state c.reserve.new.self set frame c.reserve.ensures.bytes
          (c.in_ok-carry_out-in-None.ensures.done frame (c.as_slice-in-None.ensures.value ∙ words_is)),
    )
