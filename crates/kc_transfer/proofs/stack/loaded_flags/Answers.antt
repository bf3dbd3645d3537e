use Rattle.kc_transfer.proofs.MaskLemmas.{loaded_apart}
use Rattle.kc_transfer.proofs.stack.loaded_flags.Goals as goal

pub invariant_of-result : goal.invariant_of-result
invariant_of-result c = loaded_apart (record { zeros = c.b.inside.zeros; ones = c.b.inside.ones }) c.b.invariant
