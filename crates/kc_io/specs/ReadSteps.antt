-- Where a reading of a whole file is after some of its reads.
use Rattle.std.specs.Prelude.{◌≡◌, ℕ, ◌≤◌, List, length, take, Option, Some, None, IfSome, IsSomeAnd, ⊤}
use Rattle.kc_io.specs.Files.{Held}

-- these are the file's first bytes, where the files report it and hold the name
abbrev pub IsPrefix : Option Held → List ℕ → List ℕ → Type 0
IsPrefix (Some held) name bytes = IfSome (held name) (λ file. take (length bytes) file ≡ bytes)
IsPrefix None name bytes = ⊤

-- the named file is held and has at least this many bytes, where the files report it
abbrev pub IsAtLeast : Option Held → List ℕ → ℕ → Type 0
IsAtLeast (Some held) name n = IsSomeAnd (held name) (λ file. n ≤ length file)
IsAtLeast None name n = ⊤
