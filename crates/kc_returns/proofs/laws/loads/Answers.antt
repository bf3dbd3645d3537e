use Rattle.kc_returns.proofs.LoadLemmas.{flags_reload, selectors_are_due, spaces_are_kept, latches_follow}
use Rattle.kc_returns.proofs.laws.loads.Goals as goal

pub returns : goal.returns
returns c = record {
  flags = flags_reload;
  selectors = selectors_are_due;
  spaces = spaces_are_kept;
  latches = latches_follow;
}
