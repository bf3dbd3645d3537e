use Rattle.std.proofs.Common.{ltb, ap, ◌∙◌}
use Rattle.kc_words.specs.Range.{Range}
use Rattle.kc_image.specs.declared.segments.Place.{Place}
use Rattle.kc_image.proofs.ByAddressLemmas.{meets_any_empty, meets_any_before, meets_any_greatest, greatest_is}
use Rattle.kc_image.proofs.segments.Segments.meets.Goals as goal

pub returns-then-span : goal.returns-then-span
returns-then-span c = rw (← c.span.view_is) (meets_any_empty _ _ c.if-span.true)

pub returns-in-Some : goal.returns-in-Some
returns-in-Some c =
    let found = c.in-Some.ensures in
    let span : Range = record { from = c.span.inside.from; to = c.span.inside.to } in
    let greatest = greatest_is _ _ _ found.0 c.in-Some.place c.self.invariant found.1 found.2 found.3 in
    let end = ap (λ (p : Place). p.span.to) c.place.view_is in
    rw (← c.span.view_is, ← c.self.view_is)
    (ap (ltb span.from) end ∙ meets_any_greatest c.self.inside.list.items span c.in-Some.place c.if-span.false greatest)

pub returns-in-None : goal.returns-in-None
returns-in-None c =
    let span : Range = record { from = c.span.inside.from; to = c.span.inside.to } in
    rw (← c.span.view_is, ← c.self.view_is)
    (meets_any_before _ _ span c.self.invariant c.if-span.false c.in-None.ensures)
