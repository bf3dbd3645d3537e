-- What a reader that is fed a certificate in pieces has read, this project's own.
use Rattle.std.specs.Prelude.{◌≡◌, ℕ, Bool, true, false, List, ◌++◌, Option, Some, None, Result, Ok, Err, ◌⊎◌}
use Rattle.kc_cert.specs.declared.certificate.Certificate.{Certificate}
use Rattle.kc_certfields.specs.declared.fault.CertFault.{CertFault}
use Rattle.kc_certfields.specs.Fault.{no_memory}
use Rattle.kc_certfields.specs.Rest.{Rest}
use Rattle.kc_certfields.specs.Stable.{is_short, followed}
use Rattle.kc_certfmt.specs.Reading.{cert_at}
use Rattle.kc_certfmt.specs.Resume.{Part, resume, is_done}

-- what was read of a certificate
pub record Sofar : Type 0 where
  -- the part that was read
  pub part : Option Part
  -- the bytes that make no whole part yet
  pub rest : Rest

-- what contracts see of a reader
pub record Reader : Type 0 where
  pub read : Sofar
  -- the first fault of all bytes so far, where they are no certificate
  pub fault : Option CertFault

-- however the bytes go on, they give what the rest gives after the part that was read
abbrev pub GoesOn : List ℕ → Sofar → Type 0
GoesOn fed s = (more : List ℕ) → cert_at (fed ++ more) ≡ resume s.part (followed s.rest more)

-- however the bytes go on, they give this fault
abbrev pub Keeps : List ℕ → CertFault → Type 0
Keeps fed e = (more : List ℕ) → cert_at (fed ++ more) ≡ Err e

-- bytes are missing, or the fault stays
abbrev pub HasFault : List ℕ → Sofar → Bool → CertFault → Type 0
HasFault fed s true e = GoesOn fed s × (cert_at fed ≡ Err e)
HasFault fed s false e = Keeps fed e

abbrev pub HasReadTo : List ℕ → Sofar → Option CertFault → Type 0
HasReadTo fed s None = GoesOn fed s × (is_done s.part s.rest ≡ true)
HasReadTo fed s (Some e) = (e ≡ no_memory) ⊎ HasFault fed s (is_short e) e

-- these are the bytes that the reader was fed, unless memory ran out
abbrev pub HasRead : List ℕ → Reader → Type 0
HasRead fed r = HasReadTo fed r.read r.fault

-- what a reader with this fault answers: a fault that stays
abbrev pub lasting : Bool → CertFault → Result (Unit {0}) CertFault
lasting true e = Ok tt
lasting false e = Err e

abbrev pub told : Option CertFault → Result (Unit {0}) CertFault
told None = Ok tt
told (Some e) = lasting (is_short e) e

-- what bytes give doesn't last where they are a certificate or too few
abbrev pub IsOpen : Result Certificate CertFault → Type 0
IsOpen (Ok cert) = Unit {0}
IsOpen (Err e) = is_short e ≡ true

-- A fault comes exactly where all bytes so far have it, and more bytes don't mend it.
abbrev pub Answers : Result (Unit {0}) CertFault → Result Certificate CertFault → Type 0
Answers (Ok x) due = IsOpen due
Answers (Err e) due = (e ≡ no_memory) ⊎ ((due ≡ Err e) × (is_short e ≡ false))

-- a reader without a fault has read a certificate
abbrev pub IsReader : Sofar → Option CertFault → Type 0
IsReader s None = is_done s.part s.rest ≡ true
IsReader s (Some e) = Unit {0}
