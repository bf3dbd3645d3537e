use Rattle.std.proofs.Common.{◌≡◌, ◌+◌, ◌-◌, ◌<◌, ◌++◌, ◌∷◌, [], List, replicate, subst, arith}
use Rattle.kc_cpu.specs.declared.cpu.Cpu.{Cpu}
use Rattle.kc_events.specs.declared.turn.Turn.{Turn}
use Rattle.kc_events.specs.declared.turn.Turn.TheVariants.{Go}
use Rattle.kc_replay.specs.declared.run.Progress.{Progress}
use Rattle.kc_replay.specs.declared.run.Progress.TheVariants.{GoesOn, Over}
use Rattle.kc_replay.specs.Progress.{LeadsTo, EndsIn, Advances}
use Rattle.kc_replay.proofs.CountLemmas.{once_more, all_of}
use Rattle.kc_replay.proofs.ProgressLemmas.{goes_on, is_over}
use Rattle.kc_replay.proofs.run.Run.go.Goals as goal

pub loop-preserved : goal.loop-preserved
loop-preserved c =
    let step : Cpu → Turn = λ _. Go in
    let one = subst (λ (p : Progress). Advances c.loop.self c.take.new.self (step ∷ []) p) c.in_default.is
    c.in_ok-clean.ensures in
    subst (λ (turns : List (Cpu → Turn)). LeadsTo c.args.self.now c.take.new.self turns) (once_more step c.loop.counter)
    (goes_on c.args.self.now c.loop.self c.take.new.self (replicate c.loop.counter step) (step ∷ []) GoesOn
    c.loop.invariant one)

pub returns-in-Over : goal.returns-in-Over
returns-in-Over c =
    let step : Cpu → Turn = λ _. Go in
    let left = c.args.count - (c.loop.counter + 1) in
    let less : c.loop.counter < c.args.count = c.loop-test.true in
    let all : c.args.count ≡ c.loop.counter + 1 + left = omega (arith, less) in
    let one = subst (λ (p : Progress). Advances c.loop.self c.take.new.self (step ∷ []) p) c.in-Over.is
    c.in_ok-clean.ensures in
    subst (λ (turns : List (Cpu → Turn)). EndsIn c.args.self.now c.take.new.self turns c.in-Over.clean)
    (all_of step c.loop.counter left c.args.count all)
    (is_over c.args.self.now c.take.new.self (replicate c.loop.counter step ++ step ∷ []) (replicate left step)
    c.in-Over.clean
    (goes_on c.args.self.now c.loop.self c.take.new.self (replicate c.loop.counter step) (step ∷ [])
    (Over c.in-Over.clean) c.loop.invariant one))
