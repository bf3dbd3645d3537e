use Rattle.kc_delivers.proofs.FromUserLemmas.{user_delivery_is_covered}
use Rattle.kc_delivers.proofs.laws.from_user.Goals as goal

pub returns : goal.returns
returns c = record { covered = user_delivery_is_covered }
