use Rattle.kc_describes.proofs.LawLemmas.{location_is_address, may_is_permitted, clear_is_not_live}
use Rattle.kc_describes.proofs.laws.places.Goals as goal

pub returns : goal.returns
returns c =
    record { address = location_is_address; permitted = may_is_permitted; not_live = clear_is_not_live }
