use Rattle.std.proofs.Common.{◌≡◌, ◌<◌, ◌^◌, true, false, length, Some, ap, sym, ◌∙◌, arith, List}
use Rattle.std.specs.Prelude.{slice_index_or}
use Rattle.std.specs.Ordering.{is_eq}
use Rattle.kc_cert.specs.Table.{Position, position_order}
use Rattle.kc_cert.proofs.LookupLemmas.{got, absent-from}
use Rattle.kc_cert.proofs.PositionLemmas.{same-position}
use Rattle.kc_cert.proofs.sites.find_site.Goals as goal
use Rattle.kc_cert.proofs.sites.find_site.Goals.{else-at-count-via-then-at-count+else-is_eq, else-at-count-via-else-at-count}

pub order_at-requires-clause-probes : goal.order_at-requires-clause-probes
order_at-requires-clause-probes g c =
    let count : c.count.result ≡ length (g.T.Sites.sites c.args.sites.now) =
    c.count.ensures.count ∙ ap (λ (l : List Position). length l) c.first_from-at.ensures.sites in
    let few = c.first_from-at.ensures.probes 32 (omega (arith, count, c.count.type_inv)) in
    omega (arith, few, c.requires.probes)

pub returns-then-is_eq-clause-found : goal.returns-then-is_eq-clause-found
returns-then-is_eq-clause-found g c =
    let items = g.T.Sites.sites c.args.sites.now in
    let p : Position = (c.args.context, c.args.site.now) in
    let at = c.first_from-at.result in
    let count : c.count.result ≡ length items =
    c.count.ensures.count ∙ ap (λ (l : List Position). length l) c.first_from-at.ensures.sites in
    let equal : is_eq (position_order (slice_index_or items at p) p) ≡ true =
    ap (λ (l : List Position). is_eq (position_order (slice_index_or l at p) p)) (sym c.first_from-at.ensures.sites)
    ∙ sym (ap is_eq (c.order_at.ensures.order p)) ∙ sym c.is_eq.ensures ∙ c.if-is_eq.true in
    got items at p (omega (arith, count, c.if-at-count.true)) ∙ ap Some (same-position (slice_index_or items at p) p equal)

pub returns-else-at-count-clause-absent : goal.returns-else-at-count-clause-absent
returns-else-at-count-clause-absent g c none =
    let items = g.T.Sites.sites c.args.sites.now in
    let p : Position = (c.args.context, c.args.site.now) in
    let at = c.first_from-at.result in
    let count : c.count.result ≡ length items =
    c.count.ensures.count ∙ ap (λ (l : List Position). length l) c.first_from-at.ensures.sites in
    elim c.else-at-count.branch [
      | else-at-count-via-then-at-count+else-is_eq w ↦ absent-from items p at c.requires.rises c.first_from-at.ensures.first
          (λ lt. ap (λ (l : List Position). is_eq (position_order (slice_index_or l at p) p))
          (sym c.first_from-at.ensures.sites)
          ∙ sym (ap is_eq (w.order_at.ensures.order p)) ∙ sym w.is_eq.ensures ∙ w.if-is_eq.false)
      | else-at-count-via-else-at-count w ↦ absent-from items p at c.requires.rises c.first_from-at.ensures.first
          (λ lt. absurd (omega (arith, lt, count, w.if-at-count.false)))
    ]
