-- What is left to do, and what comes of it: files are read one after another, each within its limit, until the work is
-- over. This project's own.
use Rattle.std.specs.Prelude.{◌≡◌, ℕ, ◌≤◌, ◌⊎◌, List, length, Option, Result, Ok, Err, IsSomeAnd, ⊤}
use Rattle.kc_io.specs.Files.{Held, IsWhole, IsLonger}
use Rattle.kc_top.specs.declared.status.Status.TheVariants.{ReadFault, TooLarge}
use Rattle.kc_top.specs.declared.outcome.Outcome.{Outcome}
use Rattle.kc_top.specs.Lines.{read_fault_line, too_large_line}

pub data Work : Type 1 where
  -- it is over, with one of these outcomes
  Over : (Outcome → Type 0) → Work
  -- a file by its name, the most bytes that it may have, and what follows from its bytes
  Wants : List ℕ → ℕ → (List ℕ → Work) → Work
  -- rules: the outcomes where one is broken, that all hold, and what follows then
  Ruled : (Outcome → Type 0) → Type 0 → Work → Work

-- it is over, with this outcome
abbrev pub Only : Outcome → Work
Only end = Over (λ o. o ≡ end)

-- what follows from a form, or the outcome of its fault
abbrev pub form : {A E : Type 0} → (E → Outcome) → Result A E → (A → Work) → Work
form bad (Ok value) next = next value
form bad (Err fault) next = Only (bad fault)

abbrev pub read_fault : List ℕ → Outcome
read_fault name = record { status = ReadFault; text = read_fault_line name }

abbrev pub too_large : List ℕ → Outcome
too_large name = record { status = TooLarge; text = too_large_line name }

-- the named file was read whole, within the limit, and this outcome follows of its bytes
pub record IsRead (told : Option Held) (limit : ℕ) (name : List ℕ) (next : List ℕ → Outcome → Type 0) (o : Outcome)
    : Type 0 where
  pub file : List ℕ
  pub whole : IsWhole told name file
  pub within : length file ≤ limit
  pub follows : next file o

-- The outcome comes of the work, where `rose` says that the count of a name's faults rose: a read failed, or a file is
-- larger than its limit, or what follows comes of its bytes; a rule is broken, or all hold and what follows comes.
abbrev pub Comes : Option Held → (List ℕ → Type 0) → Work → Outcome → Type 0
Comes told rose (Over ends) o = ends o
Comes told rose (Wants name limit next) o =
    (rose name × (o ≡ read_fault name))
    ⊎ ((IsLonger told name limit × (o ≡ too_large name))
    ⊎ IsRead told limit name (λ bytes. Comes told rose (next bytes)) o)
Comes told rose (Ruled broken holds next) o = broken o ⊎ (holds × Comes told rose next o)

-- each file that the work wants is held
abbrev pub AreHeld : Held → Work → Type 0
AreHeld held (Over ends) = ⊤
AreHeld held (Wants name limit next) = IsSomeAnd (held name) (λ bytes. AreHeld held (next bytes))
AreHeld held (Ruled broken holds next) = holds → AreHeld held next
