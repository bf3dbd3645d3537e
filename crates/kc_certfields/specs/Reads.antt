-- Readers of a certificate's fields, this project's own: a reader gives a value and what is left after it, or the first
-- fault.
use Rattle.std.specs.Prelude.{◌≡◌, ℕ, zero, suc, ◌+◌, ◌-◌, ◌^◌, min, Bool, not, List, length, drop, Option, Some, None, Result, Ok, Err, ◌⊎◌}
use Rattle.kc_rules.specs.Rules.{◌>>=◌, refuse}
use Rattle.kc_certfields.specs.declared.fault.CertFault.{CertFault}
use Rattle.kc_certfields.specs.declared.fault.CertKind.TheVariants.{Short, Range}
use Rattle.kc_certfields.specs.Fault.{fault, no_memory}
use Rattle.kc_certfields.specs.Rest.{Rest}

abbrev pub Reading : Type 0 → Type 0
Reading A = Rest → Result (A × Rest) CertFault

-- what is left after n bytes more; an offset saturates at 2^64 - 1
abbrev pub past : ℕ → Rest → Rest
past n i = record { at = min (i.at + n) (2 ^ 64 - 1); bytes = drop n i.bytes }

-- the bytes end within the field that begins here: the fault is at their end
abbrev pub short : Rest → CertFault
short i = fault Short (min (i.at + length i.bytes) (2 ^ 64 - 1))

-- the field at this offset is in range
abbrev pub in_range : Bool → ℕ → Result (Unit {0}) CertFault
in_range fits at = refuse (not fits) (fault Range at)

-- the value that the number of the field at this offset stands for, where there is one
abbrev pub one_of : {A : Type 0} → Option A → ℕ → Result A CertFault
one_of (Some x) at = Ok x
one_of None at = Err (fault Range at)

-- reads n times, each time on from what was read before
unfoldable pub times : {S : Type 0} → (S → Reading S) → ℕ → S → Reading S
times next zero s i = Ok (s, i)
times next (suc n) s i = do
  more ← next s i
  times next n more.0 more.1

-- The call read what the definition says, where view shows its value; it took no memory.
abbrev pub Reads : {X Y : Type 0} → (X → Y) → Reading Y → Rest → Result X CertFault → Rest → Type 0
Reads view read before (Ok x) after = read before ≡ Ok (view x, after)
Reads view read before (Err e) after = read before ≡ Err e

-- The same, unless memory ran out.
abbrev pub ReadsOrEnds : {X Y : Type 0} → (X → Y) → Reading Y → Rest → Result X CertFault → Rest → Type 0
ReadsOrEnds view read before (Ok x) after = read before ≡ Ok (view x, after)
ReadsOrEnds view read before (Err e) after = (e ≡ no_memory) ⊎ (read before ≡ Err e)
