use Rattle.std.proofs.Common.{◌↔◌, drop}
use Rattle.std.specs.List.{AllZip}
use Rattle.kc_lattice.proofs.list.stands_each.Given as goal

-- what is left decides
abbrev pub invariant-loop-i : goal.invariant-loop-i
invariant-loop-i g l =
    AllZip (λ x c. g.V.Meaning.holds x l.env c) l.items l.concs ↔ AllZip (λ x c. g.V.Meaning.holds x l.env c)
    (drop l.i l.items) (drop l.i l.concs)
