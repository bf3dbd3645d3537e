use Rattle.std.proofs.Common.{◌≡◌, length, sym, ◌∙◌, rules}
use Rattle.kc_shapes.specs.RowLaws.{all_alike_rows}
use Rattle.kc_state.proofs.state.AbsStateDomain.join.Goals as goal

-- both have 16 registers
pub join_each-requires : goal.join_each-requires
join_each-requires c =
    let count : length c.args.self.now.regs ≡ length c.args.other.now.regs = search rules in
    all_alike_rows c.args.self.now.regs c.args.other.now.regs count

-- and 296 slots
pub join-requires-6 : goal.join-requires-6
join-requires-6 c = all_alike_rows _ _ (c.whole.ensures.count ∙ sym c.whole-2.ensures.count)
