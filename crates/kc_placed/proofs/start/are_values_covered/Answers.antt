use Rattle.std.proofs.Common.{List, sym, ap, ◌∙◌}
use Rattle.std.proofs.lemmas.List.{length-replicate}
use Rattle.kc_frames.specs.Slots.{every_slot}
use Rattle.kc_lattice.specs.Rows.{rows_below}
use Rattle.kc_value.specs.AbsValue.{AbsValue}
use Rattle.kc_value.specs.Value.{value_below, value_top}
use Rattle.kc_cert.specs.Conditions.{start_slot}
use Rattle.kc_placed.proofs.ListLemmas.{same-redone}
use Rattle.kc_placed.proofs.start.are_values_covered.Goals as goal

-- the start's slots go by their numbers alone
pub returns : goal.returns
unfolding every_slot
returns c =
    c.are_slots_covered.ensures.value
    ∙ ap (λ (l : List AbsValue). rows_below value_below l c.args.slots.now)
    (same-redone (start_slot c.args.cfg.now) 0 c.args.slots.now (every_slot value_top)
    (c.whole.ensures.count ∙ sym (length-replicate 296 value_top)))
