use Rattle.std.proofs.Common.{◌≡◌, drop}
use Rattle.kc_lattice.specs.Rows.{rows_below}
use Rattle.kc_lattice.proofs.list.leq_each.Given as goal

-- what is left decides
abbrev pub invariant-loop-i : goal.invariant-loop-i
invariant-loop-i g l = let f = g.V.Domain.below in
    rows_below f (drop l.i l.these) (drop l.i l.those) ≡ rows_below f l.these l.those
