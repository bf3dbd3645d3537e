use Rattle.std.proofs.Common.{◌<◌, length, ap, ◌∙◌, arith}
use Rattle.kc_frames.specs.Padded.{padded}
use Rattle.kc_frames.proofs.PaddedLemmas.{push-padded}
use Rattle.kc_frames.proofs.padding.grow.Goals as goal

pub loop-first-preserved : goal.loop-first-preserved
loop-first-preserved g c =
    let first = c.loop-first.first in
    let r = c.args.rest.now in
    let below : length first < 296 = omega (arith, c.len.ensures.value, c.loop-first-test.true, c.requires) in
    ap (padded 296 r) c.push.ensures ∙ push-padded 296 r first below ∙ c.loop-first.invariant
