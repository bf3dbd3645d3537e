use Rattle.std.proofs.Common.{◌≡◌, ◌+◌, ◌*◌, ◌≤◌, length, arith}
use Rattle.kc_value.specs.Value.{value_top}
use Rattle.kc_state.proofs.PartLemmas.{changed_block}
use Rattle.kc_state.proofs.parts.visit_block.Goals as goal

-- each of its slots stays as it is
pub returns-then-keeps_block-clause-whole : goal.returns-then-keeps_block-clause-whole
returns-then-keeps_block-clause-whole g c =
    let slots = c.args.slots.now in
    let block = c.args.block in
    let count : length slots ≡ 296 = c.whole.ensures.count in
    let inside : 64 * block + 104 ≤ length slots = omega (arith, count, c.requires) in
    changed_block (g.C.PartChange.changed c.args.change.now) block value_top slots inside
    (c.keeps_block.ensures.same c.if-keeps_block.true)
