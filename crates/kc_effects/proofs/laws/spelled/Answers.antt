use Rattle.kc_effects.proofs.SpelledLemmas.{found_is_spelled}
use Rattle.kc_effects.proofs.laws.spelled.Goals as goal

pub returns : goal.returns
returns c = record { encodable = found_is_spelled }
