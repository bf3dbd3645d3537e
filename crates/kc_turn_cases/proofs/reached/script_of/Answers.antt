use Rattle.std.proofs.Common.{arith}
use Rattle.kc_trace.proofs.CutLemmas.{few_lines}
use Rattle.kc_turn_cases.proofs.reached.script_of.Goals as goal

-- a text has no more lines than bytes
pub read_trace-requires : goal.read_trace-requires
read_trace-requires c = record {
  lines = let few = few_lines c.args.text.now in omega (arith, few, c.if-text-gt-MOST_BYTES.false);
}
