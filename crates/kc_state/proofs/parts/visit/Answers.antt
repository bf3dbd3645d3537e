use Rattle.std.proofs.Common.{◌≡◌, ◌+◌, ◌*◌, ◌≤◌, length, arith}
use Rattle.kc_value.specs.Value.{value_top}
use Rattle.kc_state.proofs.PartLemmas.{changed_part}
use Rattle.kc_state.proofs.parts.visit.Goals as goal

-- each of its slots stays as it is
pub returns-then-keeps-clause-whole : goal.returns-then-keeps-clause-whole
returns-then-keeps-clause-whole g c =
    let slots = c.args.slots.now in
    let part = c.args.part in
    let count : length slots ≡ 296 = c.whole.ensures.count in
    let inside : 8 * part + 8 ≤ length slots = omega (arith, count, c.requires) in
    changed_part (g.C.PartChange.changed c.args.change.now) part value_top slots inside
    (c.keeps.ensures.same c.if-keeps.true)
