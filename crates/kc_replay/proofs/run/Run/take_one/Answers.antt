use Rattle.std.proofs.Common.{◌∙◌, sym}
use Rattle.std.specs.Option.{option_map}
use Rattle.kc_replay.specs.Turns.{turn_at, one}
use Rattle.kc_replay.specs.Progress.{Advances}
use Rattle.kc_replay.proofs.ProgressLemmas.{ok_map, line_turn}
use Rattle.kc_replay.proofs.run.Run.take_one.Goals as goal

pub returns-in-Some : goal.returns-in-Some
returns-in-Some c =
    let line = c.args.line.now in
    let rest = c.args.rest.now in
    let here = turn_at c.args.self.now.machine.config line rest in
    ok_map c.take.result (Advances c.args.self.now c.take.new.self _)
    (Advances c.args.self.now c.take.new.self (one here))
    (λ end. line_turn c.args.self.now c.take.new.self here c.in-Some.turn end
    (sym c.in-Some.is ∙ c.in_ok-turn.ensures.turn
    ∙ (λ i. option_map (λ f. f (c.state.ensures.state i).cpu) (turn_at (c.config-cfg.ensures.config i) line rest))))
    c.take.ensures
