use Rattle.std.proofs.Common.{◌≡◌, ◌+◌, ◌<◌, length, ap, ◌∙◌, arith}
use Rattle.std.proofs.lemmas.List.{length-set}
use Rattle.kc_state.specs.PartSteps.{changed_from}
use Rattle.kc_state.proofs.PartLemmas.{changed_one}
use Rattle.kc_state.proofs.parts.redo_part.Goals as goal

-- one more slot is changed
pub loop-i-preserved : goal.loop-i-preserved
loop-i-preserved g c =
    let f = g.C.PartChange.changed c.args.change.now in
    let slots = c.loop-i.slots in
    let i = c.loop-i.i in
    let count : length slots ≡ 296 = c.loop-i.invariant.count in
    let below : i < length slots = omega (arith, count, c.loop-i-test.true, c.requires) in
    let one = changed_one f i c.get.result.now c.at-v.result slots below (c.get.ensures.value c.get.result.now)
    c.at-v.ensures.value in
    let here : changed_from f (i + 1) c.set.new.self ≡ changed_from f i slots =
    ap (changed_from f (i + 1)) c.set.ensures.value ∙ one in
    record {
      count = ap length c.set.ensures.value ∙ length-set slots i c.at-v.result ∙ count;
      whole = here ∙ c.loop-i.invariant.whole;
    }
