use Rattle.std.proofs.Common.{All, length, sym, ap, ◌∙◌, subst}
use Rattle.kc_frames.proofs.PaddedLemmas.{All-padded, length-padded}
use Rattle.kc_frames.proofs.slots.SlotsDomain.tell.Goals as goal

pub returns : goal.returns
returns g c =
    let valid = g.V.Domain.valid in
    let s = c.self.inside in
    let each = subst (All valid) c.as_slice.ensures c.tell_each.ensures.valid in
    record {
      valid = (
        subst (All valid) c.self.view_is (All-padded valid 296 s.rest s.first each c.tell.ensures.valid),
        ap length (sym c.self.view_is) ∙ length-padded 296 s.rest s.first c.self.invariant,
      );
    }
