-- What a certificate's file gives, this project's own.
use Rattle.std.specs.Prelude.{◌≡◌, ◌≢◌, ℕ, ◌+◌, ◌≤◌, List, length, Option, Result, Ok, Err, ⊤}
use Rattle.kc_io.specs.Files.{Held, FilesState, HasFailed, HasTaken, IsLonger, IsWhole}
use Rattle.kc_io.specs.ReadSteps.{IsPrefix}
use Rattle.kc_cert.specs.declared.certificate.Certificate.{Certificate}
use Rattle.kc_certfields.specs.declared.fault.CertFault.{CertFault}
use Rattle.kc_certfields.specs.declared.fault.CertKind.TheVariants.{NoMemory}
use Rattle.kc_certfmt.specs.Reading.{cert_at}
use Rattle.kc_certfmt.specs.Fed.{Reader, HasRead}
use Rattle.kc_certfmt.specs.declared.file.CertEnd.{CertEnd}
use Rattle.kc_certfmt.specs.declared.file.CertEnd.TheVariants as end

-- the whole file was read between the two states, it has no more bytes than the limit, and they give this
pub record IsRead (before after : FilesState) (name : List ℕ) (limit : ℕ) (due : Result Certificate CertFault) : Type 0 where
  pub bytes : List ℕ
  pub whole : IsWhole before.held name bytes
  pub within : length bytes ≤ limit
  pub taken : HasTaken before after (length bytes)
  pub gives : cert_at bytes ≡ due

-- what an answer says of the file and of what was read of it between the two states
abbrev pub ReadsCert : FilesState → FilesState → List ℕ → ℕ → Result Certificate CertEnd → Type 0
ReadsCert before after name limit (Ok cert) = IsRead before after name limit (Ok cert)
ReadsCert before after name limit (Err (end.Form e)) = IsRead before after name limit (Err e) × (e.kind ≢ NoMemory)
ReadsCert before after name limit (Err end.TooLong) =
    IsLonger before.held name limit × HasTaken before after (limit + 1)
ReadsCert before after name limit (Err end.Fault) = HasFailed before after name
ReadsCert before after name limit (Err end.NoMemory) = ⊤

-- ---- piece by piece

-- the reader was fed the first n bytes of the file
pub record IsFed (held : Option Held) (name : List ℕ) (n : ℕ) (r : Reader) : Type 0 where
  pub fed : List ℕ
  pub prefix : IsPrefix held name fed
  pub long : length fed ≡ n
  pub read : HasRead fed r

-- after the first bytes of the file the reader was fed n more; none at the file's end
pub record FeedsMore (before after : FilesState) (name : List ℕ) (first limit n : ℕ) (r : Reader) : Type 0 where
  pub within : first + n ≤ limit
  pub more : IsFed before.held name (first + n) r
  pub whole : n ≡ 0 → IsWhole before.held name more.fed
  pub taken : HasTaken before after n

-- what the answer to one read says
abbrev pub Feeds : FilesState → FilesState → List ℕ → ℕ → ℕ → Reader → Result ℕ CertEnd → Type 0
Feeds before after name first limit r (Ok n) = FeedsMore before after name first limit n r
Feeds before after name first limit r (Err end.TooLong) =
    IsLonger before.held name limit × ((n : ℕ) × (first + n ≡ limit + 1) × HasTaken before after n)
Feeds before after name first limit r (Err end.Fault) = HasFailed before after name
Feeds before after name first limit r (Err end.NoMemory) = ⊤
Feeds before after name first limit r (Err (end.Form e)) = ⊥

-- what a reader's end says of the bytes that it was fed
abbrev pub Ends : Result Certificate CertEnd → Result Certificate CertFault → Type 0
Ends (Ok cert) due = due ≡ Ok cert
Ends (Err (end.Form e)) due = (due ≡ Err e) × (e.kind ≢ NoMemory)
Ends (Err end.NoMemory) due = ⊤
Ends (Err end.Fault) due = ⊥
Ends (Err end.TooLong) due = ⊥
