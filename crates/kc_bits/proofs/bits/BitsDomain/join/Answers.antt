use Rattle.kc_bits.specs.BitsLaws.{apart_parts}
use Rattle.kc_bits.proofs.bits.BitsDomain.join.Goals as goal

pub invariant_of-self : goal.invariant_of-self
invariant_of-self c =
    apart_parts c.self.inside.zeros c.self.inside.ones c.other.inside.zeros c.other.inside.ones c.self.invariant
