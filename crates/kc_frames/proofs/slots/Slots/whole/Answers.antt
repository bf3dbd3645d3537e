use Rattle.std.proofs.Common.{length, sym, ap, ◌∙◌}
use Rattle.kc_frames.proofs.PaddedLemmas.{length-padded}
use Rattle.kc_frames.proofs.slots.Slots.whole.Goals as goal

pub returns : goal.returns
returns g c = record {
  count =
      ap length (sym c.self.view_is) ∙ length-padded 296 c.self.inside.rest c.self.inside.first c.self.invariant;
}
