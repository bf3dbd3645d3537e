use Rattle.std.proofs.Common.{arith}
use Rattle.kc_transfer.proofs.MaskLemmas.{upper_apart}
use Rattle.kc_transfer.proofs.spaces.upper.Goals as goal

pub invariant_of-result : goal.invariant_of-result
invariant_of-result c = upper_apart c.b.inside.zeros c.b.inside.ones c.b.invariant (omega arith) (omega arith)
