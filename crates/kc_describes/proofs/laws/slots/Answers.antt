use Rattle.kc_describes.proofs.LawLemmas.{load_is_sound, store_is_sound, called_is_sound}
use Rattle.kc_describes.proofs.laws.slots.Goals as goal

pub returns : goal.returns
returns c = record { load = load_is_sound; store = store_is_sound; call = called_is_sound }
