use Rattle.std.proofs.Common.{sym, ◌∙◌}
use Rattle.std.proofs.lemmas.List.{length-replicate}
use Rattle.kc_frames.specs.Slots.{every_slot}
use Rattle.kc_value.specs.Value.{value_top}
use Rattle.kc_cert.specs.Conditions.{start_slot}
use Rattle.kc_placed.proofs.ListLemmas.{same-redone}
use Rattle.kc_placed.proofs.start.put_start_slots.Goals as goal

-- the start's slots go by their numbers alone
pub returns : goal.returns
unfolding every_slot
returns c =
    c.redo.ensures.value
    ∙ same-redone (start_slot c.args.cfg.now) 0 c.args.slots.now (every_slot value_top)
    (c.whole.ensures.count ∙ sym (length-replicate 296 value_top))
