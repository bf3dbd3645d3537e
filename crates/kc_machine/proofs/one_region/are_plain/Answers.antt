use Rattle.kc_machine.proofs.OneRegionLemmas.{plain-judged, plain-present}
use Rattle.kc_machine.proofs.one_region.are_plain.Goals as goal

pub returns : goal.returns
returns c = record {
  front = λ t. plain-judged c.args.cfg.now c.tell.ensures.valid c.args.cr3 c.args.accesses.now (c.all_plain.ensures.0 t);
  permitted = λ t. plain-present c.args.cfg.now c.tell.ensures.valid c.args.cr3 c.args.accesses.now (c.all_plain.ensures.0 t);
}
