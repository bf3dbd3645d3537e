use Rattle.kc_describes.proofs.LawLemmas.{shift_is_sound}
use Rattle.kc_describes.proofs.laws.moves.Goals as goal

pub returns : goal.returns
returns c = record { shift = shift_is_sound }
