-- The room of a line, and how much of it a call takes.
use Rattle.std.specs.Prelude.{ℕ, ◌+◌, ◌≤◌, List, length}
use Rattle.kc_explain.specs.declared.line.TheConstants.{LONGEST_LINE}

-- n bytes more have room
abbrev pub HasRoom : List ℕ → ℕ → Type 0
HasRoom line n = length line + n ≤ LONGEST_LINE

-- there are at most n bytes more
abbrev pub GrowsAtMost : List ℕ → List ℕ → ℕ → Type 0
GrowsAtMost old new n = length new ≤ length old + n
