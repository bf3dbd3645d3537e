use Rattle.std.proofs.Common.{replicate}
use Rattle.kc_events.specs.declared.turn.Turn.TheVariants.{Go}
use Rattle.kc_replay.specs.Progress.{LeadsTo}
use Rattle.kc_replay.proofs.run.Run.go.Given as goal

-- so many turns were taken
abbrev pub invariant-loop : goal.invariant-loop
invariant-loop l = LeadsTo l.fn.self l.self (replicate l.counter (λ _. Go))
