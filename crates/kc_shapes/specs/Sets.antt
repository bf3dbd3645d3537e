-- Sets of small numbers as the bits of a number, this project's own: a lesser set is a subset.
use Rattle.std.specs.Prelude.{ℕ, ◌-◌, ◌^◌, ◌<◌, Bool, ◌==◌, bit_and, bit_or}

-- a set of numbers below n
abbrev pub IsSet : ℕ → ℕ → Type 0
IsSet n set = set < 2 ^ n

abbrev pub is_subset : ℕ → ℕ → Bool
is_subset lesser greater = bit_and greater lesser == lesser

abbrev pub union : ℕ → ℕ → ℕ
union a b = bit_or a b

-- all numbers below n
abbrev pub all_below : ℕ → ℕ
all_below n = 2 ^ n - 1

-- as a number a greater set is greater
abbrev pub set_rank : ℕ → ℕ → ℕ
set_rank n set = all_below n - set
