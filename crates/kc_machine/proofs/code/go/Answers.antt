use Rattle.std.proofs.Common.{Ok, ap, sym, subst}
use Rattle.kc_exec.specs.declared.state.State.{State}
use Rattle.kc_events.specs.declared.turn.Turn.TheVariants.{Go}
use Rattle.kc_events.specs.Attempt.{gone}
use Rattle.kc_events.specs.Breaks.{BreaksWith}
use Rattle.kc_machine.specs.declared.end.StepEnd.{StepEnd}
use Rattle.kc_machine.specs.Ends.{Ends}
use Rattle.kc_machine.proofs.GoLemmas.{undecodable-ends}
use Rattle.kc_machine.proofs.code.go.Goals as goal

pub returns-then-is_undecodable-clause-end : goal.returns-then-is_undecodable-clause-end
returns-then-is_undecodable-clause-end c =
    let cfg = c.args.cfg.now in
    let S = c.args.state.now in
    let found = c.args.found in
    let t = gone cfg found S in
    subst (λ (e : StepEnd). Ends cfg S t (λ b. BreaksWith cfg found S Go t b) c.halt.new.state (Ok e))
    (sym c.halt.ensures.end)
    (undecodable-ends cfg found S c.halt.new.state (c.is_undecodable.ensures.0 c.if-is_undecodable.true)
    (ap (λ (s : State). s.stopped) c.halt.ensures.state))
