-- The lines of a trace by their form: this project's own. A word in a number's place that is no number, or is out of
-- range, is told only where the line has a form and may stand at its place.
use Rattle.std.specs.Prelude.{codes, ℕ, ◌-◌, Bool, true, false, not, ◌&&◌, nat_le, nat_lt, List, [], ◌∷◌, Option, Some, None, ok_or, Result, Ok, Err, if◌then◌else◌}
use Rattle.std.specs.Str.{bytes_eq}
use Rattle.kc_rules.specs.Rules.{◌>>=◌}
use Rattle.kc_trace.specs.declared.assignment.Setter.TheVariants.{ByUser, ByBody, ByLeave}
use Rattle.kc_trace.specs.declared.fault.LineFault.{LineFault}
use Rattle.kc_trace.specs.declared.fault.LineFault.TheVariants.{Form, Number}
use Rattle.kc_trace.specs.declared.line.Line.{Line}
use Rattle.kc_trace.specs.declared.line.Line.TheVariants.{Start, Mem, Go, Irq, Nmi, Debug, Check, Fault, Trap, Syscall, User, Body, Leave}
use Rattle.kc_trace.specs.declared.line.Place.{Place}
use Rattle.kc_trace.specs.Words.{words_of}
use Rattle.kc_trace.specs.Numbers.{number, decimal, code, vector, bytes}
use Rattle.kc_trace.specs.Assignments.{assignments}

-- ---- the words after the first one: none, one, or two

abbrev pub no_word : List (List ℕ) → Result (Unit {0}) LineFault
no_word [] = Ok tt
no_word (w ∷ ws) = Err Form

abbrev pub one_word : List (List ℕ) → Result (List ℕ) LineFault
one_word [] = Err Form
one_word (w ∷ []) = Ok w
one_word (w ∷ (x ∷ xs)) = Err Form

abbrev pub two_words : List (List ℕ) → Result (List ℕ × List ℕ) LineFault
two_words [] = Err Form
two_words (w ∷ []) = Err Form
two_words (w ∷ (x ∷ [])) = Ok (w, x)
two_words (w ∷ (x ∷ (y ∷ ys))) = Err Form

-- ---- each line, by what follows its first word

-- 1 up to the rest of the turns
abbrev pub count_up_to : ℕ → Option ℕ → Option ℕ
count_up_to most None = None
count_up_to most (Some n) = if nat_le 1 n && nat_le n most then Some n else None

unfoldable pub go_line : ℕ → List (List ℕ) → Result Line LineFault
go_line left ws = do
  w ← one_word ws
  n ← ok_or (count_up_to left (decimal w)) Number
  Ok (Go n)

unfoldable pub mem_line : List (List ℕ) → Result Line LineFault
mem_line ws = do
  w ← two_words ws
  at ← ok_or (number w.0) Number
  bs ← ok_or (bytes w.1) Number
  Ok (Mem at bs)

unfoldable pub irq_line : List (List ℕ) → Result Line LineFault
irq_line ws = do
  w ← one_word ws
  v ← ok_or (vector w) Number
  Ok (Irq v)

unfoldable pub fault_line : List (List ℕ) → Result Line LineFault
fault_line ws = do
  w ← two_words ws
  at ← ok_or (number w.0) Number
  c ← ok_or (code w.1) Number
  Ok (Fault at c)

unfoldable pub trap_line : List (List ℕ) → Result Line LineFault
trap_line ws = do
  w ← two_words ws
  v ← ok_or (vector w.0) Number
  c ← ok_or (code w.1) Number
  Ok (Trap v c)

-- a line that is its first word alone
unfoldable pub bare_line : Line → List (List ℕ) → Result Line LineFault
bare_line line ws = do
  ok ← no_word ws
  Ok line

unfoldable pub start_line : List (List ℕ) → Result Line LineFault
start_line ws = do
  set ← assignments ByUser ws
  Ok (Start set)

unfoldable pub user_line : List (List ℕ) → Result Line LineFault
user_line ws = do
  set ← assignments ByUser ws
  Ok (User set)

unfoldable pub body_line : List (List ℕ) → Result Line LineFault
body_line ws = do
  set ← assignments ByBody ws
  Ok (Body set)

unfoldable pub leave_line : List (List ℕ) → Result Line LineFault
leave_line ws = do
  set ← assignments ByLeave ws
  Ok (Leave set)

-- an event, or a step of user code or of a handler
abbrev pub turn_line : List ℕ → List (List ℕ) → Result Line LineFault
turn_line w ws =
    if bytes_eq w (codes "irq") then irq_line ws
    else if bytes_eq w (codes "nmi") then bare_line Nmi ws
    else if bytes_eq w (codes "debug") then bare_line Debug ws
    else if bytes_eq w (codes "check") then bare_line Check ws
    else if bytes_eq w (codes "fault") then fault_line ws
    else if bytes_eq w (codes "trap") then trap_line ws
    else if bytes_eq w (codes "syscall") then bare_line Syscall ws
    else if bytes_eq w (codes "user") then user_line ws
    else if bytes_eq w (codes "body") then body_line ws
    else if bytes_eq w (codes "leave") then leave_line ws
    else Err Form

-- ---- where a line may stand

-- the line, where it may stand at its place
abbrev pub placed : Bool → Result Line LineFault → Result Line LineFault
placed true line = line
placed false line = Err Form

-- The first line is `start`, and no other is. A `mem` line follows a line that writes, or another `mem` line of it.
-- After 1,000,000 turns no turn may come; there `go` has no number in range.
abbrev pub line_of_words : Place → List (List ℕ) → Result Line LineFault
line_of_words place [] = Err Form
line_of_words place (w ∷ ws) =
    if bytes_eq w (codes "start") then placed (not place.begun) (start_line ws)
    else if bytes_eq w (codes "mem") then placed place.takes_bytes (mem_line ws)
    else if bytes_eq w (codes "go") then placed place.begun (go_line place.left ws)
    else placed (place.begun && nat_lt 0 place.left) (turn_line w ws)

abbrev pub line_of : Place → List ℕ → Result Line LineFault
line_of place text = line_of_words place (words_of text)

-- ---- what a line leaves

-- how many turns the line is
abbrev pub turns_of : Line → ℕ
turns_of (Start set) = 0
turns_of (Mem at bs) = 0
turns_of (Go n) = n
turns_of (Irq v) = 1
turns_of Nmi = 1
turns_of Debug = 1
turns_of Check = 1
turns_of (Fault at c) = 1
turns_of (Trap v c) = 1
turns_of Syscall = 1
turns_of (User set) = 1
turns_of (Body set) = 1
turns_of (Leave set) = 1

-- a `mem` line may follow it
abbrev pub takes_bytes : Line → Bool
takes_bytes (Start set) = true
takes_bytes (Mem at bs) = true
takes_bytes (Go n) = false
takes_bytes (Irq v) = false
takes_bytes Nmi = false
takes_bytes Debug = false
takes_bytes Check = false
takes_bytes (Fault at c) = false
takes_bytes (Trap v c) = false
takes_bytes Syscall = false
takes_bytes (User set) = true
takes_bytes (Body set) = true
takes_bytes (Leave set) = false

abbrev pub place_after : Place → Line → Place
place_after place line = record { begun = true; takes_bytes = takes_bytes line; left = place.left - turns_of line }
