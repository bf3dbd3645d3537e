use Rattle.std.proofs.Common.{length, ap, arith}
use Rattle.kc_regions.specs.Description.{Description}
use Rattle.kc_state.specs.AbsEvents.{arrives}
use Rattle.kc_absevent.proofs.GateLemmas.{walked_all}
use Rattle.kc_absevent.proofs.events.arriving.Goals as goal

-- all gates were walked
pub returns : goal.returns
returns c =
    let all = c.args.all in
    walked_all c.args.cfg.now
    (arrives (record { irq = all.irq; nmi = all.nmi; debug = all.debug; check = all.check; fault = all.fault }))
    c.loop-gate.gate-index c.loop-gate.events.vectors c.tell.ensures.valid (omega (
      arith,
      c.loop-gate-test.false,
      ap length c.as_slice-gate-items.ensures.items,
      ap (λ (d : Description). length d.gates) c.cfg.view_is,
    )) c.loop-gate.invariant
