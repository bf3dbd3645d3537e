use Rattle.std.proofs.Common.{◌≡◌, ltb, ℕ, Option, None, refl, ap, sym, subst, ◌∙◌, inl, inr, arith}
use Rattle.std.specs.Prelude.{IsSome}
use Rattle.std.proofs.lemmas.Bool.{cases_Bool, ltb-true, true≢false}
use Rattle.std.specs.Bool.{then_some}
use Rattle.kc_image.specs.declared.segments.Place.{Place}
use Rattle.kc_image.proofs.ByAddressLemmas.{place_found, place_missing, greatest_is}
use Rattle.kc_image.proofs.segments.Segments.find.Goals as goal

pub returns-in-Some-clause-place : goal.returns-in-Some-clause-place
returns-in-Some-clause-place c =
    let found = c.in-Some.ensures in
    let greatest = greatest_is _ _ _ found.0 c.in-Some.place c.self.invariant found.1 found.2 found.3 in
    let end = ap (λ (p : Place). p.span.to) c.place.view_is in
    rw (← c.self.view_is)
    (c.then_some.ensures ∙ ap (λ (to : ℕ). then_some (ltb c.args.a to) c.in-Some.place) end
    ∙ place_found c.self.inside.list.items c.self.inside.by_address c.args.a c.in-Some.place c.self.invariant greatest)

pub returns-in-None-clause-place : goal.returns-in-None-clause-place
returns-in-None-clause-place c = rw (← c.self.view_is) (place_missing _ _ _ c.self.invariant c.in-None.ensures)

pub returns-in-Some-clause-inside : goal.returns-in-Some-clause-inside
returns-in-Some-clause-inside c = λ some.
    let to = c.place.inside.0.0.to in
    elim (cases_Bool (ltb c.args.a to)) [
      | inl t ↦ omega (arith, ltb-true c.args.a to t, c.place.ranges)
      | inr f ↦
          let result : then_some (ltb c.args.a to) c.in-Some.place ≡ None = rw f refl in
          let nothing : IsSome {T = Place} None =
          subst (λ (o : Option Place). IsSome o) (c.then_some.ensures ∙ result) some in
          absurd (true≢false (sym nothing))
    ]
