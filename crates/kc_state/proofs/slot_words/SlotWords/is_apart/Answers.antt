use Rattle.std.proofs.Common.{Option, subst}
use Rattle.kc_state.specs.PartSteps.{IsApartFrom}
use Rattle.kc_state.specs.declared.location.Location.{Location}
use Rattle.kc_state.proofs.ApartLemmas.{far_apart}
use Rattle.kc_state.proofs.slot_words.SlotWords.is_apart.Goals as goal

-- its lowest word decides of a part below the base or below the top of a marked stack
pub returns-else-part-lt5 : goal.returns-else-part-lt5
returns-else-part-lt5 c =
    λ e. far_apart c.args.self.now.cfg.now c.args.self.now.key.now c.args.l c.args.size c.args.part c.if-part-lt5.false
    (subst (λ (o : Option Location). IsApartFrom c.args.l c.args.size o 64) c.at.ensures.value
    (c.is_apart_from.ensures e))
