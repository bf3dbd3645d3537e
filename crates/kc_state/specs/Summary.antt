-- Summaries of contexts, this project's own: order, join and top part by part.
use Rattle.std.specs.Prelude.{ℕ, ◌+◌, Bool, ◌&&◌}
use Rattle.kc_frames.specs.Clobber.{IsClobber, clobber_below, clobber_joined, clobber_top, clobber_rank}
use Rattle.kc_space.specs.Latches.{latches_below, latches_joined, latches_top, latches_rank}
use Rattle.kc_state.specs.declared.summary.Summary.{Summary}

abbrev pub IsSummary : Summary → Type 0
IsSummary s = IsClobber s.clobber

abbrev pub summary_below : Summary → Summary → Bool
summary_below lesser greater =
    clobber_below lesser.clobber greater.clobber && latches_below lesser.latches greater.latches

abbrev pub summary_joined : Summary → Summary → Summary
summary_joined x y =
    record { clobber = clobber_joined x.clobber y.clobber; latches = latches_joined x.latches y.latches }

abbrev pub summary_top : Summary
summary_top = record { clobber = clobber_top; latches = latches_top }

abbrev pub summary_rank : Summary → ℕ
summary_rank s = clobber_rank s.clobber + latches_rank s.latches
