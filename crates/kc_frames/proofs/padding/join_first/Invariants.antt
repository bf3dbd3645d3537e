use Rattle.std.proofs.Common.{◌≡◌, ◌++◌, length, take, drop}
use Rattle.std.specs.List.{AllZip}
use Rattle.kc_lattice.specs.Rows.{rows_joined}
use Rattle.kc_frames.specs.Padded.{padded}
use Rattle.kc_frames.proofs.padding.join_first.Given as goal

-- what is done and the join of the rest are the whole join
abbrev pub invariant-loop-i : goal.invariant-loop-i
invariant-loop-i g l =
    let others = padded (length l.initial.these) l.other l.those in
    record {
      lengths : length l.these ≡ length l.initial.these;
      alike : AllZip g.V.Domain.alike (drop l.i l.these) (drop l.i others);
      whole : take l.i l.these ++ rows_joined g.V.Domain.joined (drop l.i l.these) (drop l.i others) ≡ rows_joined
          g.V.Domain.joined l.initial.these others;
    }
