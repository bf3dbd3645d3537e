use Rattle.std.proofs.Common.{arith}
use Rattle.kc_bits.proofs.Whole.{all_apart, all_stands, all_only}
use Rattle.kc_bits.proofs.bits.Bits.of.Goals as goal

pub invariant_of-result : goal.invariant_of-result
invariant_of-result c = all_apart c.args.v (omega arith)

pub returns-clause-only : goal.returns-clause-only
returns-clause-only c = (all_stands c.args.v (omega arith), λ n h s. all_only c.args.v n (omega arith) h s)
