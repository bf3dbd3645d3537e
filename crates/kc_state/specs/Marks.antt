-- The marked stacks of a description, looked up once for all slots: machinery of the walk over them.
use Rattle.std.specs.Prelude.{ℕ, suc, cond, List, [], ◌∷◌, set, Option, Some, option_map, slice_get}
use Rattle.kc_regions.specs.Description.{Description}
use Rattle.kc_regions.specs.Region.{is_stack, stack_of, marked_of}
use Rattle.kc_regions.specs.declared.region.Region.{Region}
use Rattle.kc_state.specs.Places.{below_address}
use Rattle.kc_state.specs.declared.slot_words.Mark.{Mark}

abbrev pub mark_of : Description → Region → Mark
mark_of d r = record { to = r.span.to; stack = stack_of d.regions (below_address r.span.to 1) }

-- marked stack m, counted in the order of the regions
abbrev pub mark_in : Description → ℕ → Option Mark
mark_in d m = option_map (mark_of d) (slice_get (marked_of d.regions) m)

-- a description has at most three
abbrev pub marks_of : Description → List (Option Mark)
marks_of d = mark_in d 0 ∷ mark_in d 1 ∷ mark_in d 2 ∷ []

-- the marks of the marked stacks among these regions, before which s stacks stand
abbrev pub marks_from : ℕ → List Region → List Mark
marks_from s [] = []
marks_from s (r ∷ rs) =
    cond (is_stack r.kind)
    (cond r.marked (record { to = r.span.to; stack = Some s } ∷ marks_from (suc s) rs) (marks_from (suc s) rs))
    (marks_from s rs)

-- these marks from place n on; what has no place is left out
abbrev pub with_marks : ℕ → List (Option Mark) → List Mark → List (Option Mark)
with_marks n places [] = places
with_marks n places (m ∷ ms) = with_marks (suc n) (set places n (Some m)) ms
