-- Lists of numbers, each of which is there once. This project's own.
use Rattle.std.specs.Prelude.{◌≡◌, ℕ, ◌+◌, ◌<◌, ◌==◌, Bool, cond, List, [], ◌∷◌}

-- how often the number is listed
abbrev pub times : List ℕ → ℕ → ℕ
times [] n = 0
times (x ∷ xs) n = cond (x == n) 1 0 + times xs n

abbrev pub IsListed : List ℕ → ℕ → Type 0
IsListed xs n = 0 < times xs n

-- the numbers that are marked are listed, each once
abbrev pub AreListed : List ℕ → (ℕ → Bool) → Type 0
AreListed xs marked = (n : ℕ) → times xs n ≡ cond (marked n) 1 0
