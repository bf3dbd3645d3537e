-- What the calls of a reader do to what was read so far.
use Rattle.std.specs.Prelude.{◌≡◌, true, Bool, false, ℕ, ◌+◌, ◌≤◌, List, [], ◌∷◌, ◌++◌, length, is_some, Option, Some, None, Result, Ok, Err, ◌⊎◌}
use Rattle.kc_cert.specs.declared.certificate.Node.{Node}
use Rattle.kc_certfields.specs.declared.fault.CertFault.{CertFault}
use Rattle.kc_certfields.specs.Fault.{no_memory}
use Rattle.kc_certfields.specs.Rest.{Rest}
use Rattle.kc_certfields.specs.Reads.{Reading}
use Rattle.kc_certform.specs.CertBytes.{share_of}
use Rattle.kc_certfields.specs.Stable.{is_short, followed}
use Rattle.kc_certfmt.specs.Reading.{Nodes}
use Rattle.kc_certfmt.specs.Resume.{Part, part_at, resume, is_done}
use Rattle.kc_certfmt.specs.declared.list.PushEnd.{PushEnd}
use Rattle.kc_certfmt.specs.declared.list.PushEnd.TheVariants.{Known, NoMemory}

-- The call put what it read in the place of what was there. After a fault, and where memory ran out, that is as before.
abbrev pub Becomes : {A : Type 0} → Reading A → Rest → A → Result (Unit {0}) CertFault → A → Rest → Type 0
Becomes read before old (Ok x) new after = read before ≡ Ok (new, after)
Becomes read before old (Err e) new after = ((e ≡ no_memory) ⊎ (read before ≡ Err e)) × (new ≡ old)

-- a node that wrote its state was added, unless the state was known or memory ran out
abbrev pub PushesNew : Nodes → Nodes → Node → Result (Unit {0}) PushEnd → Type 0
PushesNew old new n (Ok x) = (share_of old.written n.state ≡ None)
    × (new ≡ record { nodes = old.nodes ++ n ∷ []; written = old.written ++ n.state ∷ [] })
PushesNew old new n (Err Known) = (is_some (share_of old.written n.state) ≡ true) × (new ≡ old)
PushesNew old new n (Err NoMemory) = new ≡ old

-- the call read the next part
abbrev pub TakesPart : Option Part → Rest → Result (Unit {0}) CertFault → Option Part → Rest → Type 0
TakesPart old before (Ok x) new after = (p : Part) × (new ≡ Some p) × (part_at old before ≡ Ok (p, after))
TakesPart old before (Err e) new after = ((e ≡ no_memory) ⊎ (part_at old before ≡ Err e)) × (new ≡ old)

-- however the bytes go on, the rest gives the same
abbrev pub Leads : Option Part → Rest → Option Part → Rest → Type 0
Leads old before new after = (more : List ℕ) → resume old (followed before more) ≡ resume new (followed after more)

-- the next part isn't whole, or its fault stays
abbrev pub StopsAt : Option Part → Rest → Option Part → Rest → Bool → CertFault → Type 0
StopsAt old before new after true e = Leads old before new after × (resume new after ≡ Err e)
StopsAt old before new after false e = (more : List ℕ) → resume old (followed before more) ≡ Err e

-- the call read parts up to the end of the certificate or to the first fault
abbrev pub TakesParts : Option Part → Rest → Option CertFault → Option Part → Rest → Type 0
TakesParts old before None new after = Leads old before new after × (is_done new after ≡ true)
TakesParts old before (Some e) new after = (e ≡ no_memory) ⊎ StopsAt old before new after (is_short e) e
