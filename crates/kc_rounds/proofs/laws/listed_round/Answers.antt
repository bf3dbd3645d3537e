use Rattle.kc_rounds.proofs.ListingLemmas.{listed-next, nothing-last}
use Rattle.kc_rounds.proofs.laws.listed_round.Goals as goal

pub returns : goal.returns
returns c = record { next = listed-next; last = nothing-last }
