use Rattle.std.proofs.Common.{◌≡◌, ◌-◌, ◌^◌, ◌<◌, length}
use Rattle.kc_cert.specs.Table.{position_order}
use Rattle.kc_cert.proofs.HalvingLemmas.{Window, Halved}
use Rattle.kc_cert.proofs.sites.first_from.Given as goal

-- the items before `low` are before this one, those from `high` on aren't, and what is left halved with each probe
abbrev pub invariant-loop-low : goal.invariant-loop-low
invariant-loop-low g l = record {
  same : g.T.Sites.sites l.sites ≡ g.T.Sites.sites l.initial.sites;
  count : length (g.T.Sites.sites l.initial.sites) < 2 ^ 32;
  window : Window position_order (g.T.Sites.sites l.initial.sites) (l.context, l.site) l.low l.high;
  halved : Halved (length (g.T.Sites.sites l.initial.sites)) (g.T.Sites.probes l.initial.sites)
      (g.T.Sites.probes l.sites) (l.high - l.low);
}

abbrev pub decreases-loop-low : goal.decreases-loop-low
decreases-loop-low g l = l.high - l.low
