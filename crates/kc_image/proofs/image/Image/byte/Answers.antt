use Rattle.std.proofs.Common.{ℕ, List, Some, ◌-◌, ap, arith, ◌∙◌}
use Rattle.std.specs.Prelude.{slice_index}
use Rattle.kc_image.specs.declared.segments.Place.{Place}
use Rattle.kc_image.specs.Image.{segment_at}
use Rattle.kc_image.proofs.LoadedLemmas.{place_holds, loaded_some, loaded_none}
use Rattle.kc_image.proofs.image.Image.byte.Goals as goal

pub overflow_sub-a : goal.overflow_sub-a
overflow_sub-a c =
    let held = place_holds c.self.inside.segments c.args.a c.in-Some.place c.in-Some.ensures.place in
    omega (arith, held.0, ap (λ (p : Place). p.span.from) c.place.view_is)

pub returns-in-Some-clause-byte : goal.returns-in-Some-clause-byte
returns-in-Some-clause-byte c =
    let from = ap (λ (p : Place). p.span.from) c.place.view_is in
    let read =
    c.byte_of.ensures
    ∙ ap (λ (file : List ℕ). slice_index (segment_at file c.in-Some.place).bytes (c.args.a - c.place.inside.0.0.from))
    c.deref.ensures.value
    ∙ ap (λ (n : ℕ). slice_index (segment_at c.self.inside.file.items c.in-Some.place).bytes (c.args.a - n)) from in
    let due =
    loaded_some c.self.inside.file.items c.self.inside.segments c.args.a c.in-Some.place c.in-Some.ensures.place in
    rw (← c.self.view_is) (ap Some read ∙ due)

pub returns-in-None-clause-byte : goal.returns-in-None-clause-byte
returns-in-None-clause-byte c =
    rw (← c.self.view_is) (loaded_none c.self.inside.file.items c.self.inside.segments c.args.a c.in-None.ensures.place)
