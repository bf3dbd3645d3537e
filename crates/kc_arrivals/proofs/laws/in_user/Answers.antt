use Rattle.kc_arrivals.proofs.UserLemmas.{user_event_is_among}
use Rattle.kc_arrivals.proofs.laws.in_user.Goals as goal

pub returns : goal.returns
returns c = record { among = user_event_is_among }
