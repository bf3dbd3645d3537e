use Rattle.std.proofs.Common.{◌<◌, ◌+◌, ◌++◌, length, take, drop, ap, ◌∙◌, arith}
use Rattle.std.proofs.lemmas.List.{length-set}
use Rattle.kc_frames.specs.Slots.{redone}
use Rattle.kc_frames.proofs.ChangeLemmas.{change_one}
use Rattle.kc_frames.proofs.redo.redo_each.Goals as goal

pub loop-i-preserved : goal.loop-i-preserved
loop-i-preserved g c =
    let f = g.C.Change.changed c.args.change.now in
    let slots = c.loop-i.slots in
    let i = c.loop-i.i in
    let v = c.get.result.now in
    let below : i < length slots = omega (arith, c.loop-i.invariant.count, c.loop-i-test.true) in
    record {
      count = ap length c.set.ensures.value ∙ length-set slots i c.at-v.result ∙ c.loop-i.invariant.count;
      whole = ap (λ vs. take (i + 1) vs ++ redone f (i + 1) (drop (i + 1) vs)) c.set.ensures.value
          ∙ change_one f i v c.at-v.result slots below (c.get.ensures.value v) c.at-v.ensures.value
          ∙ c.loop-i.invariant.whole;
    }
