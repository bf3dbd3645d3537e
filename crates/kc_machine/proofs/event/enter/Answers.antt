use Rattle.std.proofs.Common.{◌≡◌, ℕ, cond, [], ◌∷◌, ◌++◌, Option, Ok, refl, ap, sym, ◌∙◌, subst}
use Rattle.std.specs.Option.{IfSome}
use Rattle.kc_exec.specs.declared.state.State.{State}
use Rattle.kc_exec.specs.Execution.{stops}
use Rattle.kc_events.specs.Turns.{made_by_event}
use Rattle.kc_events.specs.Attempt.{entered}
use Rattle.kc_events.specs.Delivery.{Delivered, delivered, end_of_delivery}
use Rattle.kc_machine.specs.declared.end.StepEnd.{StepEnd}
use Rattle.kc_machine.specs.Ends.{Ends, listed}
use Rattle.kc_machine.specs.JudgeSteps.{BreaksByAccess}
use Rattle.kc_machine.proofs.GoLemmas.{listed-judged}
use Rattle.kc_machine.proofs.EnterLemmas.{ends-judged, of-gate, chain-is, entering, done-entering}
use Rattle.kc_machine.proofs.event.enter.Goals as goal

pub returns-in-Some-clause-end : goal.returns-in-Some-clause-end
returns-in-Some-clause-end c =
    let cfg = c.args.cfg.now in
    let S = c.args.state.now in
    let g = c.args.gate.now in
    let d = delivered cfg S.mem.bytes S.cpu S.latch g c.args.code in
    let t = entered S g.vector d in
    let gate = of-gate cfg S g c.args.code c.reserve.new.self.bytes c.reserve.ensures.bytes c.requires in
    let items : c.items.result.now ≡ d.accesses =
    c.items.ensures.items ∙ subst (λ (o : Option Delivered). IfSome o (λ e. c.deliver-end.new.log ≡ e.accesses)) gate
    c.deliver-end.ensures.accesses in
    let chain =
    c.as_slice.ensures.items ∙ chain-is S g c.base_of.result c.push_event.new.chain c.set_base.new.chain
    c.in_ok-push_event.ensures.added c.set_base.ensures in
    let j = c.in-Some.ensures S t (entering cfg S g d c.base_of.result c.as_slice.result.now c.items.result.now chain
    items) in
    subst (λ (e : StepEnd). Ends cfg S t (λ b. BreaksByAccess cfg S t b) c.halt.new.state (Ok e))
    (sym c.halt.ensures.end)
    (ends-judged cfg S t c.in-Some.end c.halt.new.state j (ap (λ (s : State). s.stopped) c.halt.ensures.state))

pub returns-in-Some-clause-accesses : goal.returns-in-Some-clause-accesses
returns-in-Some-clause-accesses c =
    let cfg = c.args.cfg.now in
    let S = c.args.state.now in
    let g = c.args.gate.now in
    let d = delivered cfg S.mem.bytes S.cpu S.latch g c.args.code in
    let t = entered S g.vector d in
    let gate = of-gate cfg S g c.args.code c.reserve.new.self.bytes c.reserve.ensures.bytes c.requires in
    let all = subst (λ (o : Option Delivered). IfSome o (λ e. c.deliver-end.new.log ≡ e.accesses)) gate
    c.deliver-end.ensures.accesses in
    let chain =
    c.as_slice.ensures.items ∙ chain-is S g c.base_of.result c.push_event.new.chain c.set_base.new.chain
    c.in_ok-push_event.ensures.added c.set_base.ensures in
    let j = c.in-Some.ensures S t (entering cfg S g d c.base_of.result c.as_slice.result.now c.items.result.now chain
    (c.items.ensures.items ∙ all)) in
    all ∙ listed-judged cfg S t d.accesses c.in-Some.end j ∙ ap (λ (e : StepEnd). listed d.accesses e)
    (sym c.halt.ensures.end)

pub returns-in-None-clause-end : goal.returns-in-None-clause-end
returns-in-None-clause-end c =
    let cfg = c.args.cfg.now in
    let S = c.args.state.now in
    let g = c.args.gate.now in
    let d = delivered cfg S.mem.bytes S.cpu S.latch g c.args.code in
    let t = entered S g.vector d in
    let gate = of-gate cfg S g c.args.code c.reserve.new.self.bytes c.reserve.ensures.bytes c.requires in
    let all = subst (λ (o : Option Delivered). IfSome o (λ e. c.deliver-end.new.log ≡ e.accesses)) gate
    c.deliver-end.ensures.accesses in
    let live = chain-is S g c.base_of.result c.push_event.new.chain c.set_base.new.chain
    c.in_ok-push_event.ensures.added c.set_base.ensures in
    let j = c.in-None.ensures S t (entering cfg S g d c.base_of.result c.as_slice.result.now c.items.result.now
    (c.as_slice.ensures.items ∙ live) (c.items.ensures.items ∙ all)) in
    let done = c.deliver-end in
    let left = record S {
      cpu = done.new.cpu;
      latch = done.new.latch;
      mem = done.new.mem;
      chain = c.set_base.new.chain;
    } in
    done-entering cfg S left g d done.result c.reserve.new.self.bytes
    (subst (λ (o : Option Delivered). IfSome o (λ e. done.result ≡ end_of_delivery cfg e)) gate done.ensures.end)
    (subst (λ (o : Option Delivered). IfSome o (λ e. done.new.cpu ≡ cond (stops cfg e.accesses) S.cpu e.cpu)) gate
    done.ensures.processor)
    (subst (λ (o : Option Delivered). IfSome o (λ e. done.new.latch ≡ cond (stops cfg e.accesses) S.latch e.latch)) gate
    done.ensures.latches)
    (subst (λ (o : Option Delivered). IfSome o
    (λ e. done.new.mem.bytes ≡ cond (stops cfg e.accesses) c.reserve.new.self.bytes e.mem)) gate done.ensures.bytes)
    refl (live ∙ ap (λ (b : ℕ). S.chain ++ made_by_event S.cpu g.vector b ∷ []) c.base_of.ensures) j
