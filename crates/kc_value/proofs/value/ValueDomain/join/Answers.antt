use Rattle.std.proofs.Common.{sym, subst}
use Rattle.std.proofs.lemmas.Nat.{or_lt}
use Rattle.kc_value.specs.Symbol.{IsSym}
use Rattle.kc_value.specs.SymbolLaws.{sym_joined_fits}
use Rattle.kc_value.proofs.value.ValueDomain.join.Goals as goal

pub invariant_of-self : goal.invariant_of-self
invariant_of-self c = (
  subst IsSym (sym c.joined-self-inside.ensures)
      (sym_joined_fits c.self.inside.sym c.other.inside.sym c.self.invariant.0),
  or_lt 17 c.self.inside.stacks c.other.inside.stacks c.self.invariant.1 c.other.invariant.1,
)
