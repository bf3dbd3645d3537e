-- The room of a certificate's record, and how much of it a call takes.
use Rattle.std.specs.Prelude.{ℕ, ◌+◌, ◌≤◌, List, length}
use Rattle.kc_certfields.specs.declared.put.TheConstants.{LONGEST_RECORD}

-- n bytes more have room
abbrev pub HasRoom : List ℕ → ℕ → Type 0
HasRoom out n = length out + n ≤ LONGEST_RECORD

-- there are at most n bytes more
abbrev pub GrowsAtMost : List ℕ → List ℕ → ℕ → Type 0
GrowsAtMost old new n = length new ≤ length old + n
