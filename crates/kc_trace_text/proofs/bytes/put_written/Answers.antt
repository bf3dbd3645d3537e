use Rattle.std.proofs.Common.{◌∙◌, ap, sym, append-nil, ◌++◌, List, ℕ, arith}
use Rattle.kc_trace_text.proofs.LoopLemmas.{no_digits, then_added, written_more}
use Rattle.kc_trace_text.proofs.bytes.put_written.Goals as goal

pub loop-write-init : goal.loop-write-init
loop-write-init c =
    let line : List ℕ = c.args.line.now.items in
    record { text = sym (ap (λ t. line ++ t) no_digits ∙ append-nil line); long = omega arith }

-- the digits of one byte more
pub loop-write-preserved : goal.loop-write-preserved
loop-write-preserved c = record {
  text = then_added _ _ _ _ _ _ c.loop-write.invariant.text c.put_byte.ensures.text
      (written_more c.args.writes.now c.loop-write.write-index _ c.loop-write-test.true);
  long = omega (arith, c.loop-write.invariant.long, c.put_byte.ensures.len);
}
