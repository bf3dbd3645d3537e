use Rattle.std.proofs.Common.{◌≡◌, ◌<◌, nat_eq, length, map, sym, ap, ◌∙◌, subst, arith}
use Rattle.std.proofs.lemmas.Bool.{false≢true}
use Rattle.kc_frames.proofs.PaddedLemmas.{top_whole, top_parts}
use Rattle.kc_frames.proofs.slots.SlotsDomain.is_top.Goals as goal

pub returns-then-len-eq-COUNT : goal.returns-then-len-eq-COUNT
returns-then-len-eq-COUNT g c =
    let f = g.V.Domain.top_of in
    let s = c.self.inside in
    let each = subst (λ vs. vs ≡ map f vs) c.as_slice.ensures (c.is_top_each.ensures.is.0 c.if-is_top_each.true) in
    record {
      is = (
        λ h. subst (λ vs. vs ≡ map f vs) c.self.view_is
            (top_whole f 296 s.rest s.first c.self.invariant each (λ some.
            absurd (omega (arith, some, c.len.ensures.value, c.if-len-eq-COUNT.true)))),
        λ h. ap (λ k. nat_eq k 296) c.if-len-eq-COUNT.true,
      );
    }

pub returns-else-len-eq-COUNT : goal.returns-else-len-eq-COUNT
returns-else-len-eq-COUNT g c =
    let f = g.V.Domain.top_of in
    let s = c.self.inside in
    let each = subst (λ vs. vs ≡ map f vs) c.as_slice.ensures (c.is_top_each.ensures.is.0 c.if-is_top_each.true) in
    let some : length s.first < 296 =
    omega (arith, c.self.invariant, c.len.ensures.value, c.if-len-eq-COUNT.false) in
    record {
      is = (
        λ h. subst (λ vs. vs ≡ map f vs) c.self.view_is
            (top_whole f 296 s.rest s.first c.self.invariant each (λ _. c.is_top.ensures.is.0 h)),
        λ h.
            let parts = top_parts f 296 s.rest s.first (subst (λ vs. vs ≡ map f vs) (sym c.self.view_is) h) in
            c.is_top.ensures.is.1 (parts.1 some),
      );
    }

pub returns-else-is_top_each : goal.returns-else-is_top_each
returns-else-is_top_each g c =
    let f = g.V.Domain.top_of in
    let s = c.self.inside in
    record {
      is = (
        λ h. absurd (false≢true (sym c.if-is_top_each.false ∙ h)),
        λ h.
            let parts = top_parts f 296 s.rest s.first (subst (λ vs. vs ≡ map f vs) (sym c.self.view_is) h) in
            c.is_top_each.ensures.is.1 (subst (λ vs. vs ≡ map f vs) (sym c.as_slice.ensures) parts.0),
      );
    }
