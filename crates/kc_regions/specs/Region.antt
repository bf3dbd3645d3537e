-- Regions by address, and the stacks among them by number. This project's own.
use Rattle.std.specs.Prelude.{ℕ, Bool, true, false, ◌&&◌, nat_le, nat_lt, List, Option, find, filter, position, slice_get}
use Rattle.kc_words.specs.Range.{Range}
use Rattle.kc_regions.specs.declared.region.Kind.{Kind}
use Rattle.kc_regions.specs.declared.region.Kind.TheVariants.{Area, Stack, Guard}
use Rattle.kc_regions.specs.declared.region.Region.{Region}

-- address a lies in the span
abbrev pub holds : Range → ℕ → Bool
holds s a = nat_le s.from a && nat_lt a s.to

abbrev pub is_area : Kind → Bool
is_area Area = true
is_area _ = false

abbrev pub is_stack : Kind → Bool
is_stack Stack = true
is_stack _ = false

abbrev pub is_guard : Kind → Bool
is_guard Guard = true
is_guard _ = false

-- the region that holds address a
abbrev pub region_of : List Region → ℕ → Option Region
region_of regions a = find (λ r. holds r.span a) regions

-- the stacks in the order of the regions; a stack's number is its place among them, from 0
abbrev pub stacks_of : List Region → List Region
stacks_of regions = filter (λ r. is_stack r.kind) regions

-- the number of the stack that holds address a
abbrev pub stack_of : List Region → ℕ → Option ℕ
stack_of regions a = position (λ r. holds r.span a) (stacks_of regions)

-- the stack of number s
abbrev pub stack_at : List Region → ℕ → Option Region
stack_at regions s = slice_get (stacks_of regions) s

-- the marked stacks in order
abbrev pub marked_of : List Region → List Region
marked_of regions = filter (λ r. r.marked) (stacks_of regions)
