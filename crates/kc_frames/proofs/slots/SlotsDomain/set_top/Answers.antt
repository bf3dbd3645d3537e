use Rattle.std.proofs.Common.{map, sym, ap, ◌∙◌}
use Rattle.kc_frames.specs.Padded.{padded}
use Rattle.kc_frames.proofs.PaddedLemmas.{map-padded}
use Rattle.kc_frames.proofs.slots.SlotsDomain.set_top.Goals as goal

pub returns : goal.returns
returns g c =
    let f = g.V.Domain.top_of in
    let s = c.self.inside in
    record {
      value = c.trim.ensures.value ∙ ap (padded 296 c.set_top-2.new.self) c.set_top.ensures
          ∙ ap (λ r. padded 296 r (map f s.first)) c.set_top-2.ensures.value
          ∙ sym (map-padded f 296 s.rest s.first) ∙ ap (map f) c.self.view_is;
    }
