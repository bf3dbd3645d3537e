use Rattle.std.proofs.Common.{ap, arith}
use Rattle.kc_regions.specs.Description.{Description}
use Rattle.kc_events.proofs.RangeLemmas.{tss-fits}
use Rattle.kc_machine.proofs.start.tss_of.Goals as goal

pub returns-clause-fits : goal.returns-clause-fits
returns-clause-fits c =
    omega (arith, tss-fits c.args.cfg.now c.tell.ensures.valid, ap (λ (d : Description). d.cpu.tss) c.cfg.view_is)
