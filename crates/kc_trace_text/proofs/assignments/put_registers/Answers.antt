use Rattle.std.proofs.Common.{◌<◌, length, arith}
use Rattle.kc_trace_text.proofs.LoopLemmas.{then_added, registers_more}
use Rattle.kc_trace_text.proofs.assignments.put_registers.Goals as goal

-- one register more
pub loop-number-preserved : goal.loop-number-preserved
loop-number-preserved c =
    let text = rw c.register_name.ensures.name at c.put_assignment.ensures.text in
    let within : c.loop-number.number < length c.args.regs.now = omega (
      arith,
      c.loop-number-test.true,
      c.told-regs,
    ) in
    record {
      text = then_added _ _ _ _ _ _ c.loop-number.invariant.text text
          (registers_more c.args.regs.now c.loop-number.number _ within);
      long = omega (arith, c.loop-number.invariant.long, c.put_assignment.ensures.len, c.register_name.ensures.short);
    }
