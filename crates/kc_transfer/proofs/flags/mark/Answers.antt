use Rattle.std.proofs.Common.{arith}
use Rattle.kc_transfer.proofs.MaskLemmas.{marked_apart}
use Rattle.kc_transfer.proofs.flags.mark.Goals as goal

pub invariant_of-result : goal.invariant_of-result
invariant_of-result c =
    marked_apart c.b.inside.zeros c.b.inside.ones c.args.forget c.args.ones c.args.zeros (omega arith) c.b.invariant
    c.requires.apart c.requires.within
