-- The turns of a trace's lines: this project's own. A `body` and a `leave` line take what they don't assign from the
-- processor before their turn, so a line's turn is a function of it.
use Rattle.std.specs.Prelude.{ℕ, List, [], ◌∷◌, ◌++◌, replicate, Option, Some, None}
use Rattle.kc_regions.specs.Description.{Description}
use Rattle.kc_cpu.specs.declared.cpu.Cpu.{Cpu}
use Rattle.kc_events.specs.declared.turn.UserSet.{UserSet}
use Rattle.kc_events.specs.declared.turn.Turn.{Turn}
use Rattle.kc_events.specs.declared.turn.Turn.TheVariants as turn
use Rattle.kc_trace.specs.declared.line.Line.{Line}
use Rattle.kc_trace.specs.declared.line.Line.TheVariants.{Start, Mem, Go, Irq, Nmi, Debug, Check, Fault, Trap, Syscall, User, Body, Leave}
use Rattle.kc_replay.specs.Values.{user_set, body_set, leave_set, writes_of}

-- the turn of a line that is one turn other than Go; the `mem` lines after it say what it writes
abbrev pub turn_at : Description → Line → List Line → Option (Cpu → Turn)
turn_at cfg (Start set) rest = None
turn_at cfg (Mem at bs) rest = None
turn_at cfg (Go n) rest = None
turn_at cfg (Irq v) rest = Some (λ cpu. turn.Irq v)
turn_at cfg Nmi rest = Some (λ cpu. turn.Nmi)
turn_at cfg Debug rest = Some (λ cpu. turn.Debug)
turn_at cfg Check rest = Some (λ cpu. turn.Check)
turn_at cfg (Fault a code) rest = Some (λ cpu. turn.Fault a code)
turn_at cfg (Trap v code) rest = Some (λ cpu. turn.Trap v code)
turn_at cfg Syscall rest = Some (λ cpu. turn.Syscall)
turn_at cfg (User set) rest = Some (λ cpu. turn.User (user_set cfg set (writes_of rest)))
turn_at cfg (Body set) rest = Some (λ cpu. turn.Body (body_set cpu set (writes_of rest)))
turn_at cfg (Leave set) rest = Some (λ cpu. turn.Leave (leave_set cfg cpu set))

-- how often the line is the turn Go
abbrev pub steps_of : Line → ℕ
steps_of (Go n) = n
steps_of _ = 0

abbrev pub one : Option (Cpu → Turn) → List (Cpu → Turn)
one None = []
one (Some t) = t ∷ []

abbrev pub turns_at : Description → Line → List Line → List (Cpu → Turn)
turns_at cfg line rest = replicate (steps_of line) (λ cpu. turn.Go) ++ one (turn_at cfg line rest)

-- the turns of the lines in their order
abbrev pub turns_of : Description → List Line → List (Cpu → Turn)
turns_of cfg [] = []
turns_of cfg (line ∷ rest) = turns_at cfg line rest ++ turns_of cfg rest

-- what the first line, `start`, and the `mem` lines after it put in place
abbrev pub first_set : Description → List Line → UserSet
first_set cfg [] = user_set cfg [] []
first_set cfg (Start set ∷ rest) = user_set cfg set (writes_of rest)
first_set cfg (line ∷ rest) = user_set cfg [] []
