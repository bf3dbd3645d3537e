use Rattle.std.proofs.Common.{sym, arith}
use Rattle.kc_value.specs.Value.{value_top}
use Rattle.kc_certfields.specs.Spelling.{is_value_top}
use Rattle.kc_certfields.proofs.SlotLemmas.{known-more, known-one}
use Rattle.kc_certfields.proofs.put_states.count_known.Goals as goal

pub loop-i-preserved : goal.loop-i-preserved
loop-i-preserved c = record {
  count = rw (c.loop-i.invariant.count, c.known-count.ensures.count)
      (sym (known-more c.args.slots.now c.loop-i.i c.get.result.now (omega (arith, c.whole.ensures.count))
      (c.get.ensures.value value_top)));
  most = omega (arith, c.known-count.ensures.count, c.loop-i.invariant.most, known-one (is_value_top c.get.result.now));
}
