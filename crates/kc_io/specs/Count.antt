-- Counts of faults, this project's own. A count is what ties an answer to its cause outside the program.
use Rattle.std.specs.Prelude.{ℕ, ◌+◌, ◌-◌, ◌^◌, ◌≤◌, min}

-- the count after n more; it saturates at 2^64 - 1
abbrev pub saturated : ℕ → ℕ → ℕ
saturated count n = min (count + n) (2 ^ 64 - 1)

-- the count rose; one that is at its last value counts as risen
abbrev pub Rose : ℕ → ℕ → Type 0
Rose before after = saturated before 1 ≤ after
