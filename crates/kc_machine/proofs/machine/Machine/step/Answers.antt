use Rattle.std.proofs.Common.{◌≡◌, ℕ, Ok, true, sym, ◌∙◌, subst}
use Rattle.kc_image.specs.Image.{Contents}
use Rattle.kc_events.specs.Fetched.{IsAt}
use Rattle.kc_events.specs.Run.{Stops, BreaksFirst}
use Rattle.kc_machine.specs.declared.end.StepEnd.TheVariants.{Done, Stopped, Broke}
use Rattle.kc_machine.specs.Machine.{MachineValue}
use Rattle.kc_machine.specs.Step.{Taken}
use Rattle.kc_machine.proofs.StepLemmas.{taken, stopped, broke}
use Rattle.kc_machine.proofs.machine.Machine.step.Goals as goal

pub returns-then-allowed-clause-done : goal.returns-then-allowed-clause-done
returns-then-allowed-clause-done c =
    let m = c.self.inside in
    let turn = c.args.turn.now in
    let found = c.fetch-found in
    let at = subst (λ (i : Contents). IsAt i m.state.cpu.rip found.result)
    (sym (c.image.ensures ∙ found.ensures.image)) found.ensures.fetched.spelled in
    let allowed = (c.allowed.ensures.exact found.result at).0 c.if-allowed.true in
    let T = c.take.new.state in
    let end = c.take.result in
    subst (λ (v : MachineValue). end ≡ Ok Done → Taken v.config v.image v.state turn T) c.self.view_is
    (taken m.config m.fetcher m.state turn found.result found.ensures.fetched.spelled found.ensures.fetched.only allowed T end
    c.take.ensures.end)

pub returns-then-allowed-clause-stopped : goal.returns-then-allowed-clause-stopped
returns-then-allowed-clause-stopped c =
    let m = c.self.inside in
    let turn = c.args.turn.now in
    let found = c.fetch-found in
    let at = subst (λ (i : Contents). IsAt i m.state.cpu.rip found.result)
    (sym (c.image.ensures ∙ found.ensures.image)) found.ensures.fetched.spelled in
    let allowed = (c.allowed.ensures.exact found.result at).0 c.if-allowed.true in
    let T = c.take.new.state in
    let end = c.take.result in
    subst (λ (v : MachineValue). end ≡ Ok Stopped → Stops v.config v.image v.state turn × (T.stopped ≡ true))
    c.self.view_is
    (stopped m.config m.fetcher m.state turn found.result found.ensures.fetched.spelled found.ensures.fetched.only allowed T end
    c.take.ensures.end)

pub returns-then-allowed-clause-broke : goal.returns-then-allowed-clause-broke
returns-then-allowed-clause-broke c =
    let m = c.self.inside in
    let turn = c.args.turn.now in
    let found = c.fetch-found in
    let at = subst (λ (i : Contents). IsAt i m.state.cpu.rip found.result)
    (sym (c.image.ensures ∙ found.ensures.image)) found.ensures.fetched.spelled in
    let allowed = (c.allowed.ensures.exact found.result at).0 c.if-allowed.true in
    let T = c.take.new.state in
    let end = c.take.result in
    subst (λ (v : MachineValue). (b : ℕ) → end ≡ Ok (Broke b) → BreaksFirst v.config v.image v.state turn b
    × (T.stopped ≡ true)) c.self.view_is
    (λ b. broke m.config m.fetcher m.state turn found.result found.ensures.fetched.spelled found.ensures.fetched.only allowed T end b
    c.take.ensures.end)
