use Rattle.std.proofs.Common.{◌≡◌, Some, Ok, ap, sym, ◌∙◌, subst}
use Rattle.kc_mem.specs.Memory.{Bytes}
use Rattle.kc_exec.specs.declared.executed.Executed.{Executed}
use Rattle.kc_exec.specs.Moment.{Moment}
use Rattle.kc_exec.specs.Breaks.{effect}
use Rattle.kc_exec.specs.Execution.{moment, accesses_of}
use Rattle.kc_exec.specs.declared.state.State.{State}
use Rattle.kc_events.specs.declared.turn.Turn.TheVariants.{Go}
use Rattle.kc_events.specs.Attempt.{gone}
use Rattle.kc_events.specs.Breaks.{BreaksWith}
use Rattle.kc_machine.specs.declared.end.StepEnd.{StepEnd}
use Rattle.kc_machine.specs.Ends.{Ends, listed}
use Rattle.kc_machine.proofs.GoLemmas.{effect_at, trial-of, listed-judged, judged-ends, concluded-ends, concluded-listed}
use Rattle.kc_machine.proofs.code.execute.Goals as goal

-- the changes are those of the instruction in the state, since the memory that was reserved has the same bytes
pub returns-in-Some-clause-end : goal.returns-in-Some-clause-end
returns-in-Some-clause-end c =
    let cfg = c.args.cfg.now in
    let S = c.args.state.now in
    let insn = c.args.insn.now in
    let t = gone cfg (Some (insn, c.args.len)) S in
    let T = c.halt.new.state in
    let is : c.effect-done.result ≡ effect_at cfg S c.args.len insn =
    c.effect-done.ensures.changes ∙ ap (λ (m : Moment). effect m insn)
    (c.new-before.ensures.value ∙ ap (λ (b : Bytes). moment cfg S.cpu S.latch b c.args.len)
    c.reserve.ensures.bytes) in
    let trial = trial-of cfg S insn c.args.len c.effect-done.result c.as_slice.result.now c.items.result.now is
    c.as_slice.ensures.items (c.items.ensures.items ∙ c.list_accesses.ensures.list) in
    subst (λ (e : StepEnd). Ends cfg S t (λ b. BreaksWith cfg (Some (insn, c.args.len)) S Go t b) T (Ok e))
    (sym c.halt.ensures.end)
    (judged-ends cfg S insn c.args.len c.requires c.in-Some.end T (c.in-Some.ensures S t trial)
    (ap (λ (s : State). s.stopped) c.halt.ensures.state))

pub returns-in-Some-clause-accesses : goal.returns-in-Some-clause-accesses
returns-in-Some-clause-accesses c =
    let cfg = c.args.cfg.now in
    let S = c.args.state.now in
    let insn = c.args.insn.now in
    let t = gone cfg (Some (insn, c.args.len)) S in
    let is : c.effect-done.result ≡ effect_at cfg S c.args.len insn =
    c.effect-done.ensures.changes ∙ ap (λ (m : Moment). effect m insn)
    (c.new-before.ensures.value ∙ ap (λ (b : Bytes). moment cfg S.cpu S.latch b c.args.len)
    c.reserve.ensures.bytes) in
    let trial = trial-of cfg S insn c.args.len c.effect-done.result c.as_slice.result.now c.items.result.now is
    c.as_slice.ensures.items (c.items.ensures.items ∙ c.list_accesses.ensures.list) in
    let all : c.list_accesses.new.log ≡ t.accesses = c.list_accesses.ensures.list
    ∙ ap (λ (d : Executed). accesses_of S.cpu c.args.len d) is in
    all ∙ listed-judged cfg S t t.accesses c.in-Some.end (c.in-Some.ensures S t trial)
    ∙ ap (λ (e : StepEnd). listed t.accesses e) (sym c.halt.ensures.end)

pub returns-in-None-clause-end : goal.returns-in-None-clause-end
returns-in-None-clause-end c =
    let cfg = c.args.cfg.now in
    let S = c.args.state.now in
    let insn = c.args.insn.now in
    let t = gone cfg (Some (insn, c.args.len)) S in
    let is : c.effect-done.result ≡ effect_at cfg S c.args.len insn =
    c.effect-done.ensures.changes ∙ ap (λ (m : Moment). effect m insn)
    (c.new-before.ensures.value ∙ ap (λ (b : Bytes). moment cfg S.cpu S.latch b c.args.len)
    c.reserve.ensures.bytes) in
    let trial = trial-of cfg S insn c.args.len c.effect-done.result c.as_slice.result.now c.items.result.now is
    c.as_slice.ensures.items (c.items.ensures.items ∙ c.list_accesses.ensures.list) in
    concluded-ends cfg S insn c.args.len c.requires c.reserve.new.self c.effect-done.result c.reserve.ensures.bytes is
    (c.in-None.ensures S t trial)
    c.conclude.result c.conclude.new.state c.conclude.ensures

pub returns-in-None-clause-accesses : goal.returns-in-None-clause-accesses
returns-in-None-clause-accesses c =
    let cfg = c.args.cfg.now in
    let S = c.args.state.now in
    let insn = c.args.insn.now in
    let t = gone cfg (Some (insn, c.args.len)) S in
    let is : c.effect-done.result ≡ effect_at cfg S c.args.len insn =
    c.effect-done.ensures.changes ∙ ap (λ (m : Moment). effect m insn)
    (c.new-before.ensures.value ∙ ap (λ (b : Bytes). moment cfg S.cpu S.latch b c.args.len)
    c.reserve.ensures.bytes) in
    let trial = trial-of cfg S insn c.args.len c.effect-done.result c.as_slice.result.now c.items.result.now is
    c.as_slice.ensures.items (c.items.ensures.items ∙ c.list_accesses.ensures.list) in
    let all : c.list_accesses.new.log ≡ t.accesses = c.list_accesses.ensures.list
    ∙ ap (λ (d : Executed). accesses_of S.cpu c.args.len d) is in
    all ∙ concluded-listed cfg S insn c.args.len c.requires c.reserve.new.self c.effect-done.result
    c.reserve.ensures.bytes is (c.in-None.ensures S t trial)
    c.conclude.result c.conclude.new.state t.accesses c.conclude.ensures
