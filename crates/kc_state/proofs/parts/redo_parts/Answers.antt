use Rattle.std.proofs.Common.{◌≡◌, ◌+◌, ◌*◌, ◌≤◌, length, sym, ap, ◌∙◌, arith}
use Rattle.kc_state.specs.PartSteps.{changed_from}
use Rattle.kc_state.proofs.PartLemmas.{changed_all, changed_none}
use Rattle.kc_state.proofs.parts.redo_parts.Goals as goal

pub loop-block-preserved : goal.loop-block-preserved
loop-block-preserved g c =
    let f = g.C.PartChange.changed c.args.change.now in
    let block = c.loop-block.block in
    let next : 64 * (block + 1) + 40 ≡ 64 * block + 104 = omega arith in
    record {
      count = c.visit_block.ensures.count;
      whole = ap (λ n. changed_from f n c.visit_block.new.slots) next ∙ c.visit_block.ensures.whole
          ∙ c.loop-block.invariant.whole;
    }

-- no slot is left
pub returns : goal.returns
returns g c =
    let f = g.C.PartChange.changed c.args.change.now in
    let slots = c.loop-block.slots in
    let end = 64 * c.loop-block.block + 40 in
    let past : length slots ≤ end = omega (arith, c.loop-block.invariant.count, c.loop-block-test.false) in
    record {
      value = sym (changed_all f end slots past) ∙ c.loop-block.invariant.whole ∙ c.visit_each.ensures.whole
          ∙ changed_none f c.args.slots.now;
    }
