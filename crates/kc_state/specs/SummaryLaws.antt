-- The laws of summaries: the `Domain` of `Summary` cites these.
use Rattle.std.proofs.Common.{◌+◌, ◌≤◌, ◌^◌, refl, arith}
use Rattle.kc_lattice.specs.Laws.{Laws, AllAlike}
use Rattle.kc_lattice.specs.PairLaws.{both_laws}
use Rattle.kc_lattice.specs.declared.both.Both.{Both}
use Rattle.kc_shapes.specs.ShapeLaws.{reshaped_laws}
use Rattle.kc_frames.specs.ClobberSets.{ClobberSets}
use Rattle.kc_frames.specs.ClobberLaws.{clobber_laws, clobber_rank-le}
use Rattle.kc_space.specs.LatchesLaws.{latches_laws, latches_rank-le}
use Rattle.kc_space.specs.declared.latches.Latches.{Latches}
use Rattle.kc_state.specs.Summary.{IsSummary, summary_below, summary_joined, summary_top, summary_rank}
use Rattle.kc_state.specs.declared.summary.Summary.{Summary}

abbrev parts : Summary → Both ClobberSets Latches
parts s = record { first = s.clobber; second = s.latches }

abbrev of_parts : Both ClobberSets Latches → Summary
of_parts b = record { clobber = b.first; latches = b.second }

pub summary_laws : Laws IsSummary AllAlike summary_below summary_joined (λ x. summary_top) summary_rank
summary_laws = reshaped_laws (both_laws clobber_laws latches_laws) parts of_parts (λ x. refl) (λ y. refl) IsSummary
    (λ x h. (h, tt)) (λ y h. h.0) (λ x y hx hy. (tt, tt))

pub summary_rank-le : (s : Summary) → summary_rank s ≤ 2 ^ 40 + 2 ^ 16 + 3
summary_rank-le s = omega (arith, clobber_rank-le s.clobber, latches_rank-le s.latches)
