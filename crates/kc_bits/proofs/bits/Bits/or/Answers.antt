use Rattle.kc_bits.proofs.Operations.{or_apart, or_sound, or_monotone}
use Rattle.kc_bits.proofs.bits.Bits.or.Goals as goal

pub invariant_of-result : goal.invariant_of-result
invariant_of-result c =
    or_apart (record { zeros = c.self.inside.zeros; ones = c.self.inside.ones })
    (record { zeros = c.other.inside.zeros; ones = c.other.inside.ones })
    c.self.invariant c.other.invariant

pub returns-clause-sound : goal.returns-clause-sound
returns-clause-sound c = rw (← c.self.view_is, ← c.other.view_is) (or_sound _ _)

pub returns-clause-monotone : goal.returns-clause-monotone
returns-clause-monotone c = or_monotone c.args.self.now c.args.other.now
