use Rattle.std.proofs.Common.{length, ap, arith}
use Rattle.kc_regions.specs.Description.{Description}
use Rattle.kc_state.specs.AbsEvents.{comes_from_user, user_comes}
use Rattle.kc_absevent.proofs.CoverLemmas.{user_events_covered}
use Rattle.kc_absevent.proofs.GateLemmas.{walked_all}
use Rattle.kc_absevent.specs.Sets.{IsSetOf}
use Rattle.kc_absevent.proofs.user.user_events.Goals as goal

-- all gates were walked
pub returns : goal.returns
returns c =
    let set : IsSetOf c.loop-gate.events.vectors (user_comes c.args.cfg.now c.args.user.now) =
    walked_all c.args.cfg.now (comes_from_user c.args.user.now) c.loop-gate.gate-index c.loop-gate.events.vectors
    c.tell.ensures.valid (omega (
      arith,
      c.loop-gate-test.false,
      ap length c.as_slice-gate-items.ensures.items,
      ap (λ (d : Description). length d.gates) c.cfg.view_is,
    )) c.loop-gate.invariant in
    record {
      value = set;
      covers = user_events_covered c.args.cfg.now c.args.user.now c.loop-gate.events.vectors c.tell.ensures.valid set;
    }
