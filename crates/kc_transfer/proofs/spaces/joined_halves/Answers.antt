use Rattle.kc_transfer.proofs.MaskLemmas.{halves_apart}
use Rattle.kc_transfer.proofs.spaces.joined_halves.Goals as goal

pub invariant_of-result : goal.invariant_of-result
invariant_of-result c =
    halves_apart c.high.inside.zeros c.high.inside.ones c.low.inside.zeros c.low.inside.ones c.high.invariant
    c.low.invariant
