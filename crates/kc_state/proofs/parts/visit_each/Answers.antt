use Rattle.std.proofs.Common.{◌≡◌, ◌+◌, ◌*◌, ap, ◌∙◌, arith}
use Rattle.kc_state.specs.PartSteps.{changed_from}
use Rattle.kc_state.proofs.parts.visit_each.Goals as goal

pub loop-part-preserved : goal.loop-part-preserved
loop-part-preserved g c =
    let f = g.C.PartChange.changed c.args.change.now in
    let part = c.loop-part.part in
    let next : 8 * (part + 1) ≡ 8 * part + 8 = omega arith in
    record {
      count = c.visit.ensures.count;
      whole = ap (λ n. changed_from f n c.visit.new.slots) next ∙ c.visit.ensures.whole ∙ c.loop-part.invariant.whole;
    }
