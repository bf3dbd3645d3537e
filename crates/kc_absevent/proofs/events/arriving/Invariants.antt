use Rattle.kc_state.specs.AbsEvents.{arrives}
use Rattle.kc_absevent.proofs.GateLemmas.{Walked}
use Rattle.kc_absevent.proofs.events.arriving.Given as goal

-- the set has the vectors of the gates walked so far by which an event may come
abbrev pub invariant-loop-gate : goal.invariant-loop-gate
invariant-loop-gate l =
    Walked (arrives (record {
      irq = l.all.irq;
      nmi = l.all.nmi;
      debug = l.all.debug;
      check = l.all.check;
      fault = l.all.fault;
    }))
    l.cfg.gates l.gate-index l.events.vectors
