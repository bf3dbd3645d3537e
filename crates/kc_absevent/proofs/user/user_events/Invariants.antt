use Rattle.kc_state.specs.AbsEvents.{comes_from_user}
use Rattle.kc_absevent.proofs.GateLemmas.{Walked}
use Rattle.kc_absevent.proofs.user.user_events.Given as goal

-- the set has the vectors of the gates walked so far that pass
abbrev pub invariant-loop-gate : goal.invariant-loop-gate
invariant-loop-gate l = Walked (comes_from_user l.user) l.cfg.gates l.gate-index l.events.vectors
