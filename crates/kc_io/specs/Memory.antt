-- What files in memory hold: this project's own.
use Rattle.std.specs.Prelude.{ℕ, List, slice_get, Option, Some, None, option_map, option_and_then, position, bytes_eq}
use Rattle.std.specs.Prelude.{String, string_bytes, Vec}
use Rattle.std.specs.declared.alloc.Global.{Global}

-- the bytes at the index of the first of these names that is the sought one
abbrev pub file_of : List (String Global) → List (Vec ℕ Global) → List ℕ → Option (List ℕ)
file_of names files sought =
    option_map (λ v. v.items) (option_and_then (λ i. slice_get files i)
    (position (λ n. bytes_eq sought (string_bytes n)) names))

-- the names that are held share one count of faults, all others another
abbrev pub shared_count : Option (List ℕ) → ℕ → ℕ → ℕ
shared_count (Some file) held others = held
shared_count None held others = others
