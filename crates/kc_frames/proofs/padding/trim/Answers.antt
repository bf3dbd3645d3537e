use Rattle.std.proofs.Common.{ap, ◌∙◌, refl}
use Rattle.kc_frames.specs.Padded.{padded}
use Rattle.kc_frames.proofs.PaddedLemmas.{pop-padded}
use Rattle.kc_frames.proofs.padding.trim.Goals as goal

pub loop-first-preserved : goal.loop-first-preserved
loop-first-preserved g c =
    let first = c.loop-first.first in
    let r = c.args.rest.now in
    record {
      value = ap (padded 296 r) c.pop.ensures
          ∙ pop-padded 296 r first (c.loop-first-test.ensures.some refl) c.is_last.ensures.bound
          (c.loop-first-test.ensures.last refl) ∙ c.loop-first.invariant.value;
    }
