use Rattle.std.proofs.Common.{ℕ, ◌<◌, take, slice_index_or}
use Rattle.kc_regions.proofs.each.first_breaking.Given as goal

-- each element before this one keeps the rule
abbrev pub invariant-loop-i : goal.invariant-loop-i
invariant-loop-i g l = (j : ℕ) (d : _) → j < l.i → g.R.Rule.kept l.rule (take j l.items) (slice_index_or l.items j d)
