use Rattle.std.proofs.Common.{◌∙◌}
use Rattle.kc_regions.specs.Lookup.{gate_of}
use Rattle.kc_state.specs.AbsEvents.{arrives, is_gate}
use Rattle.kc_state.specs.AbsEvents.{comes}
use Rattle.kc_absevent.proofs.CoverLemmas.{events_covered}
use Rattle.kc_absevent.specs.Sets.{IsSetOf}
use Rattle.kc_absevent.proofs.events.events_at.Goals as goal

-- the kinds that may come are those of the definition
pub returns : goal.returns
returns c =
    let set : IsSetOf c.arriving.result.vectors (comes c.args.cfg.now c.args.key.now c.args.site.now c.args.state.now
    c.args.insn.now c.args.len) = λ v b. c.arriving.ensures v b ∙ (λ i. is_gate (arrives (record {
      irq = c.takes_irq.ensures i;
      nmi = c.may_be_clear.ensures i;
      debug = c.takes_debug.ensures i;
      check = c.may_be_clear-2.ensures i;
      fault = c.takes_fault.ensures i;
    })) (gate_of c.args.cfg.now.gates v)) in
    record {
      value = set;
      covers = events_covered c.args.cfg.now c.args.key.now c.args.site.now c.args.state.now c.args.insn.now c.args.len
          c.arriving.result.vectors c.tell.ensures.valid c.tell-2.ensures.valid set;
    }
