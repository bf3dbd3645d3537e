use Rattle.std.proofs.Common.{get_or, ap, ◌∙◌}
use Rattle.kc_frames.proofs.PaddedLemmas.{get_or-padded}
use Rattle.kc_frames.proofs.slots.Slots.get.Goals as goal

pub returns : goal.returns
returns g c = record {
  value = λ d.
      let s = c.self.inside in
      c.at.ensures.value ∙ ap (λ i. get_or s.first i s.rest) c.from.ensures
      ∙ get_or-padded 296 c.args.i s.rest d s.first c.self.invariant c.requires
      ∙ ap (λ vs. get_or vs c.args.i d) c.self.view_is;
}
