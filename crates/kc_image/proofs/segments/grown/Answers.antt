use Rattle.std.proofs.Common.{◌≡◌, false, sym, subst}
use Rattle.kc_image.specs.declared.segments.Place.{Place}
use Rattle.kc_image.specs.Image.{meets_any}
use Rattle.kc_image.proofs.ByAddressLemmas.{IsByAddress-push, IsByAddress-empty}
use Rattle.kc_image.proofs.segments.grown.Goals as goal
use Rattle.kc_image.proofs.segments.grown.Goals.{then-first-place+in_ok-insert, else-first-place}

pub invariant_of-result : goal.invariant_of-result
invariant_of-result c =
    let span = c.place.inside.0.0 in
    let place : Place = record {
      span = record { from = span.from; to = span.to };
      offset = c.place.inside.0.1.0;
      size = c.place.inside.0.1.1.0;
    } in
    let apart : meets_any place.span c.args.list.items ≡ false =
    subst (λ (p : Place). meets_any p.span c.args.list.items ≡ false) (sym c.place.view_is) c.requires.apart in
    elim c.if-first-place.branch [
      | then-first-place+in_ok-insert w ↦
          rw (w.by_address-is, c.in_ok-push.ensures.items)
          (IsByAddress-push c.args.list.items c.args.by_address w.insert.new.self place c.requires.parts apart
          w.if-first-place.true w.in_ok-insert.ensures.updates)
      | else-first-place w ↦
          rw (w.by_address-is, c.in_ok-push.ensures.items)
          (IsByAddress-empty c.args.list.items c.args.by_address place c.requires.parts w.if-first-place.false)
    ]
