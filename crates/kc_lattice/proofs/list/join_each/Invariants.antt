use Rattle.std.proofs.Common.{◌≡◌, ◌++◌, length, take, drop}
use Rattle.std.specs.List.{AllZip}
use Rattle.kc_lattice.specs.Rows.{rows_joined}
use Rattle.kc_lattice.proofs.list.join_each.Given as goal

-- what is done and the join of the rest are the whole join
abbrev pub invariant-loop-i : goal.invariant-loop-i
invariant-loop-i g l = record {
  lengths : length l.these ≡ length l.those;
  alike : AllZip g.V.Domain.alike (drop l.i l.these) (drop l.i l.those);
  whole : take l.i l.these ++ rows_joined g.V.Domain.joined (drop l.i l.these) (drop l.i l.those) ≡ rows_joined
      g.V.Domain.joined l.initial.these l.those;
}
