use Rattle.std.proofs.Common.{sym, ◌∙◌}
use Rattle.kc_shapes.specs.RowLaws.{all_alike_rows}
use Rattle.kc_state.proofs.user.UserStateDomain.join.Goals as goal

-- both have 296 slots
pub join-requires-3 : goal.join-requires-3
join-requires-3 c = all_alike_rows _ _ (c.whole.ensures.count ∙ sym c.whole-2.ensures.count)
