-- What files report of their bytes, and what reads of them do: this project's own.
use Rattle.std.specs.Prelude.{◌≡◌, ℕ, ◌+◌, ◌≤◌, ◌<◌, List, length, take, drop, Option, Some, None, IsSomeAnd, Result}
use Rattle.std.specs.Prelude.{Ok, Err, ⊤}
use Rattle.kc_io.specs.Count.{saturated, Rose}
use Rattle.kc_io.specs.declared.files.Failed.{Failed}

-- the bytes of each name that is held
abbrev pub Held : Type 0
Held = List ℕ → Option (List ℕ)

-- what contracts see of files
pub record FilesState : Type 0 where
  -- what is held, where the files report it
  pub held : Option Held
  -- for each name, how often reads of it have failed
  pub faults : List ℕ → ℕ
  -- the numbers of the calls that fail by plan, counted from 0
  pub failing : List ℕ
  -- how many bytes reads have given
  pub taken : ℕ

-- what each call keeps: no count falls, what is held and what is planned stays
pub record FilesKept (before after : FilesState) : Type 0 where
  pub later : (name : List ℕ) → before.faults name ≤ after.faults name
  pub held : after.held ≡ before.held
  pub failing : after.failing ≡ before.failing

-- a read of this name failed between the two states
abbrev pub HasFailed : FilesState → FilesState → List ℕ → Type 0
HasFailed before after name = Rose (before.faults name) (after.faults name)

-- n bytes were taken between the two states, where the count hasn't reached its last value
pub record HasTaken (before after : FilesState) (n : ℕ) : Type 0 where
  pub most : after.taken ≤ before.taken + n
  pub least : saturated before.taken n ≤ after.taken

-- a read of n bytes at the offset `at` of a file with these bytes
pub record ReadsFile (file : List ℕ) (at n : ℕ) (buf : List ℕ) : Type 0 where
  pub bytes : take n buf ≡ take n (drop at file)
  pub within : n ≤ length (drop at file)
  -- none is read only at the end or where there is no room
  pub end : n ≡ 0 → 0 < length buf → length file ≤ at

-- the same, where the name may not be held; then nothing is read
abbrev pub ReadsIfHeld : Option (List ℕ) → ℕ → ℕ → List ℕ → Type 0
ReadsIfHeld (Some file) at n buf = ReadsFile file at n buf
ReadsIfHeld None at n buf = ⊥

-- what a read gave, where the files report what they hold
abbrev pub Reads : Option Held → List ℕ → ℕ → Result ℕ Failed → List ℕ → Type 0
Reads (Some held) name at (Ok n) buf = ReadsIfHeld (held name) at n buf
Reads (Some held) name at (Err _) buf = ⊤
Reads None name at r buf = ⊤

-- how many bytes a read gave
abbrev pub given : Result ℕ Failed → ℕ
given (Ok n) = n
given (Err _) = 0

-- these are all the bytes of the named file, where the files report it
abbrev pub IsWhole : Option Held → List ℕ → List ℕ → Type 0
IsWhole (Some held) name bytes = held name ≡ Some bytes
IsWhole None name bytes = ⊤

-- the named file is held and has more than this many bytes, where the files report it
abbrev pub IsLonger : Option Held → List ℕ → ℕ → Type 0
IsLonger (Some held) name limit = IsSomeAnd (held name) (λ file. limit < length file)
IsLonger None name limit = ⊤
