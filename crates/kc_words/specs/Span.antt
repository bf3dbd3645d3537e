-- Spans of addresses, this project's own.
use Rattle.std.specs.Prelude.{ℕ, ◌≤◌, ◌<◌}
use Rattle.kc_words.specs.Range.{Range}

-- address a lies in the span
abbrev pub Holds : Range → ℕ → Type 0
Holds s a = (s.from ≤ a) × (a < s.to)

-- some byte lies in both spans
abbrev pub Meets : Range → Range → Type 0
Meets s t = (a : ℕ) × Holds s a × Holds t a
