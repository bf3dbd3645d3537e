use Rattle.std.proofs.Common.{◌∙◌, arith}
use Rattle.kc_value.specs.AbsValue.{AbsValue}
use Rattle.kc_value.specs.Value.{value_below}
use Rattle.kc_absevent.proofs.RowLemmas.{rows-fail, rows-pass}
use Rattle.kc_absevent.proofs.covered.are_slots_covered.Goals as goal

-- this slot isn't covered
pub returns-then-not-is_below : goal.returns-then-not-is_below
returns-then-not-is_below g c =
    let x : AbsValue = c.get.result.now in
    let y : AbsValue = c.get-in-loop-i.result.now in
    rows-fail value_below (g.C.Becomes.changed c.args.change.now) c.args.old.now c.args.slots.now c.loop-i.i x y
    c.is_below.result (omega (arith, c.whole.ensures.count, c.loop-i-test.true))
    (omega (arith, c.whole-2.ensures.count, c.loop-i-test.true)) (c.get.ensures.value x)
    (c.get-in-loop-i.ensures.value y) c.is_below.ensures.value c.if-not-is_below.true
    ∙ c.loop-i.invariant

-- it is, and what is left decides
pub loop-i-preserved : goal.loop-i-preserved
loop-i-preserved g c =
    let x : AbsValue = c.get.result.now in
    let y : AbsValue = c.get-in-loop-i.result.now in
    rows-pass value_below (g.C.Becomes.changed c.args.change.now) c.args.old.now c.args.slots.now c.loop-i.i x y
    c.is_below.result (omega (arith, c.whole.ensures.count, c.loop-i-test.true))
    (omega (arith, c.whole-2.ensures.count, c.loop-i-test.true)) (c.get.ensures.value x)
    (c.get-in-loop-i.ensures.value y) c.is_below.ensures.value c.if-not-is_below.false
    ∙ c.loop-i.invariant
