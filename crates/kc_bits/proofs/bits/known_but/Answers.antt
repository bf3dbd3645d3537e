use Rattle.std.proofs.Common.{arith}
use Rattle.kc_bits.proofs.Masks.{known_but-valid}
use Rattle.kc_bits.proofs.bits.known_but.Goals as goal

pub invariant_of-result : goal.invariant_of-result
invariant_of-result c = (known_but-valid c.args.p c.args.unknown (omega arith) (omega arith)).apart
