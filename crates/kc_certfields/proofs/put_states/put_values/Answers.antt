use Rattle.std.proofs.Common.{arith}
use Rattle.kc_certfields.specs.Spelling.{value_bytes}
use Rattle.kc_certfields.proofs.LoopLemmas.{part-more}
use Rattle.kc_certfields.proofs.put_states.put_values.Goals as goal

pub loop-value-preserved : goal.loop-value-preserved
loop-value-preserved c = record {
  text = part-more value_bytes c.args.values.now c.loop-value.value-index c.value-item.result _ _ _
      c.loop-value-test.true c.value-item.is c.loop-value.invariant.text c.put_value.ensures.text;
  len = omega (arith, c.put_value.ensures.len);
}
