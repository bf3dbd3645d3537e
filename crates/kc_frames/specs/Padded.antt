-- The first values of a list of which all others are one value, this project's own.
use Rattle.std.specs.Prelude.{ℕ, List, ◌++◌, ◌-◌, length, replicate}

-- n values: those of a list, and then the same one
unfoldable pub padded : {V : Type 0} → ℕ → V → List V → List V
padded n rest first = first ++ replicate (n - length first) rest
