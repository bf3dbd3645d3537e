use Rattle.std.proofs.Common.{sym, ◌∙◌}
use Rattle.kc_shapes.specs.RowLaws.{all_alike_rows}
use Rattle.kc_state_rows.proofs.frames.slots_change_one_by_one.Goals as goal

-- both have 296 slots
pub join-requires : goal.join-requires
join-requires g c = all_alike_rows _ _ (c.whole.ensures.count ∙ sym c.whole-2.ensures.count)
