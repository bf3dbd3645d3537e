use Rattle.kc_image.proofs.ByAddressLemmas.{holds-from, holds_true, meets-from, meets_true}
use Rattle.kc_image.proofs.laws.ranges_meet_in_an_address.Goals as goal

pub returns-clause-held : goal.returns-clause-held
returns-clause-held c = λ r a. (holds-from r a, holds_true r a)

pub returns-clause-met : goal.returns-clause-met
returns-clause-met c = λ r s. (meets-from r s, λ meet. meets_true r s meet.0 meet.1 meet.2)
