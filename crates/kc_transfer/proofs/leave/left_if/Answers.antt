use Rattle.kc_transfer.proofs.MaskLemmas.{masked_apart}
use Rattle.kc_transfer.proofs.leave.left_if.Goals as goal

pub invariant_of-t-3 : goal.invariant_of-t-3
invariant_of-t-3 c = masked_apart c.b.inside.zeros c.b.inside.ones 0x200 c.b.invariant
