use Rattle.kc_limit.proofs.RoundLemmas.{same-demands, some-enough}
use Rattle.kc_limit.proofs.laws.shorter_round.Goals as goal

pub returns : goal.returns
returns c = record { some = some-enough; same = same-demands }
