use Rattle.kc_describes.proofs.LawLemmas.{greater_describes}
use Rattle.kc_describes.proofs.laws.greater.Goals as goal

pub returns : goal.returns
returns c = record { describes = greater_describes }
