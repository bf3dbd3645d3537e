-- Readings that don't look behind what they read, this project's own: whatever follows, what was read stays, and so does
-- each fault but that of bytes that are missing. So a certificate can be read in pieces.
use Rattle.std.specs.Prelude.{◌≡◌, ℕ, Bool, true, false, List, ◌++◌, Result, Ok, Err}
use Rattle.kc_certfields.specs.declared.fault.CertFault.{CertFault}
use Rattle.kc_certfields.specs.declared.fault.CertKind.{CertKind}
use Rattle.kc_certfields.specs.declared.fault.CertKind.TheVariants.{BadMagic, Version, Short, Trailing, Order, Range, TooMany, NoMemory}
use Rattle.kc_certfields.specs.Rest.{Rest}
use Rattle.kc_certfields.specs.Reads.{Reading}

abbrev pub is_short_kind : CertKind → Bool
is_short_kind Short = true
is_short_kind _ = false

-- bytes are missing
abbrev pub is_short : CertFault → Bool
is_short e = is_short_kind e.kind

-- the same, and more bytes after it
abbrev pub followed : Rest → List ℕ → Rest
followed i more = record { at = i.at; bytes = i.bytes ++ more }

pub record Stable {A : Type 0} (read : Reading A) : Type 0 where
  pub goes_on : (i j : Rest) (x : A) (more : List ℕ) → read i ≡ Ok (x, j)
      → read (followed i more) ≡ Ok (x, followed j more)
  pub stays : (i : Rest) (e : CertFault) (more : List ℕ) → read i ≡ Err e → is_short e ≡ false
      → read (followed i more) ≡ Err e
