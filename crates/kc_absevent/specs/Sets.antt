-- Sets of vectors as bits.
use Rattle.std.specs.Prelude.{◌≡◌, ℕ, ◌/◌, ◌%◌, ◌^◌, ◌<◌, Bool, ◌==◌, List, get_or, set, bit_or}
use Rattle.std.specs.Int.{bit_at}

-- vector v is in the set of these words, 64 vectors a word
abbrev pub has_vector : List ℕ → ℕ → Bool
has_vector words v = bit_at (get_or words (v / 64) 0) (v % 64) == 1

-- the set has just the vectors that pass the test
abbrev pub IsSetOf : List ℕ → (ℕ → Bool) → Type 0
IsSetOf words test = (v : ℕ) → v < 256 → has_vector words v ≡ test v

-- the words with vector v
abbrev pub with_vector : List ℕ → ℕ → List ℕ
with_vector words v = set words (v / 64) (bit_or (get_or words (v / 64) 0) (2 ^ (v % 64)))
