use Rattle.std.proofs.lemmas.Nat.{or_lt}
use Rattle.kc_frames.proofs.clobber.ClobberDomain.join.Goals as goal

pub invariant_of-self : goal.invariant_of-self
invariant_of-self c = (
  or_lt 16 c.self.inside.stacks c.other.inside.stacks c.self.invariant.0 c.other.invariant.0,
  or_lt 40 c.self.inside.words c.other.inside.words c.self.invariant.1 c.other.invariant.1,
)
