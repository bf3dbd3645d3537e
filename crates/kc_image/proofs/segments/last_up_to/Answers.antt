use Rattle.std.proofs.lemmas.Map.Keys.{le_from_not_gt, ge_from_not_lt}
use Rattle.kc_image.proofs.ByAddressLemmas.{not_gt}
use Rattle.kc_image.proofs.segments.last_up_to.Goals as goal

pub returns-in-Some : goal.returns-in-Some
returns-in-Some c =
    let last = (c.range.ensures.in_range tt).3 _ _ c.in-Some.ensures.steps in
    let greatest = (c.range.ensures.in_range tt).4 _ _ c.in-Some.ensures.steps in (
      c.in-Some.field-0-0.now,
      le_from_not_gt _ _ last.0.1,
      last.1,
      λ q le some. ge_from_not_lt _ _ (greatest q (tt, not_gt q c.args.a le) some),
    )
