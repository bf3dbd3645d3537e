use Rattle.std.proofs.Common.{Option, subst}
use Rattle.kc_state.specs.PartSteps.{IsApartFrom}
use Rattle.kc_state.specs.declared.location.Location.{Location}
use Rattle.kc_state.proofs.ApartLemmas.{block_apart}
use Rattle.kc_state.proofs.slot_words.SlotWords.is_block_apart.Goals as goal

-- its lowest word decides
pub returns : goal.returns
returns c =
    λ e. block_apart c.args.self.now.cfg.now c.args.self.now.key.now c.args.l c.args.size c.args.block
    (subst (λ (o : Option Location). IsApartFrom c.args.l c.args.size o 512) c.at.ensures.value
    (c.is_apart_from.ensures e))
