-- The lines as which a trace is written: this project's own. Each value is written, and of a handler's edits those that
-- there are.
use Rattle.std.specs.Prelude.{ℕ, zero, suc, ◌+◌, ◌&&◌, nat_eq, nat_lt, List, [], ◌∷◌, ◌++◌, length, Option, Some, None, if◌then◌else◌}
use Rattle.kc_events.specs.declared.turn.UserSet.{UserSet}
use Rattle.kc_events.specs.declared.turn.BodySet.{BodySet}
use Rattle.kc_events.specs.declared.turn.LeaveSet.{LeaveSet}
use Rattle.kc_events.specs.declared.turn.Edit.{Edit}
use Rattle.kc_events.specs.declared.turn.Turn.{Turn}
use Rattle.kc_events.specs.declared.turn.Turn.TheVariants as turn
use Rattle.kc_events.specs.declared.turn.Trace.{Trace}
use Rattle.kc_trace.specs.declared.assignment.Assignment.{Assignment}
use Rattle.kc_trace.specs.declared.assignment.Assignment.TheVariants.{SetRegister, SetRip, SetFlags, SetCs, SetGs, SetDueRip, SetDueFlags, SetDueRsp}
use Rattle.kc_trace.specs.declared.line.Line.{Line}
use Rattle.kc_trace.specs.declared.line.Line.TheVariants.{Start, Mem, Go, Irq, Nmi, Debug, Check, Fault, Trap, Syscall, User, Body, Leave}
use Rattle.kc_trace.specs.Assignments.{is_given_back}

-- ---- assignments

-- the registers, of which the first has number k
abbrev pub registers : ℕ → List ℕ → List Assignment
registers k [] = []
registers k (r ∷ rs) = SetRegister k r ∷ registers (suc k) rs

-- those that a handler doesn't give back
abbrev pub scratch_registers : ℕ → List ℕ → List Assignment
scratch_registers k [] = []
scratch_registers k (r ∷ rs) =
    if is_given_back k then scratch_registers (suc k) rs else SetRegister k r ∷ scratch_registers (suc k) rs

abbrev pub user_assignments : UserSet → List Assignment
user_assignments u = registers 0 u.regs ++ SetRip u.rip ∷ SetFlags u.flags ∷ SetCs u.cs ∷ SetGs u.gs ∷ []

-- an edit that there is
abbrev pub edited : (ℕ → Assignment) → Option ℕ → List Assignment
edited assign None = []
edited assign (Some n) = assign n ∷ []

abbrev pub edits : Edit → List Assignment
edits e = edited SetDueRip e.rip ++ edited SetDueFlags e.flags ++ edited SetDueRsp e.rsp

abbrev pub body_assignments : BodySet → List Assignment
body_assignments b = registers 0 b.regs ++ SetRip b.rip ∷ SetFlags b.flags ∷ edits b.edit

abbrev pub leave_assignments : LeaveSet → List Assignment
leave_assignments l = scratch_registers 0 l.regs ++ SetFlags l.flags ∷ []

-- ---- bytes

-- A line that has the bytes bs from address a on takes the writes that follow as long as each is at the next address,
-- below 2^64, and the line has at most 4,096 bytes; the rest are in further lines.
abbrev pub mem_from : ℕ → List ℕ → List (ℕ × ℕ) → List Line
mem_from a bs [] = Mem a bs ∷ []
mem_from a bs (w ∷ ws) =
    if nat_eq w.0 (a + length bs) && nat_lt (length bs) 4096 then mem_from a (bs ++ w.1 ∷ []) ws
    else Mem a bs ∷ mem_from w.0 (w.1 ∷ []) ws

abbrev pub mem_lines : List (ℕ × ℕ) → List Line
mem_lines [] = []
mem_lines (w ∷ ws) = mem_from w.0 (w.1 ∷ []) ws

-- ---- turns

-- the line of so many turns Go; none of none
abbrev pub go_lines : ℕ → List Line
go_lines zero = []
go_lines (suc n) = Go (suc n) ∷ []

-- the lines of a turn other than Go
abbrev pub lines_of_turn : Turn → List Line
lines_of_turn turn.Go = []
lines_of_turn (turn.Irq v) = Irq v ∷ []
lines_of_turn turn.Nmi = Nmi ∷ []
lines_of_turn turn.Debug = Debug ∷ []
lines_of_turn turn.Check = Check ∷ []
lines_of_turn (turn.Fault a code) = Fault a code ∷ []
lines_of_turn (turn.Trap v code) = Trap v code ∷ []
lines_of_turn turn.Syscall = Syscall ∷ []
lines_of_turn (turn.User u) = User (user_assignments u) ∷ mem_lines u.writes
lines_of_turn (turn.Body b) = Body (body_assignments b) ∷ mem_lines b.writes
lines_of_turn (turn.Leave l) = Leave (leave_assignments l) ∷ []

-- how many turns Go follow n of them: one more, or the run is over
abbrev pub go_count : ℕ → Turn → ℕ
go_count n turn.Go = suc n
go_count n _ = 0

-- the lines of a run of n turns Go that a turn ends
abbrev pub ended_run : ℕ → Turn → List Line
ended_run n turn.Go = []
ended_run n _ = go_lines n

-- the lines of the turns, after n turns Go; a longest run of turns Go is one line
abbrev pub lines_after : ℕ → List Turn → List Line
lines_after n [] = go_lines n
lines_after n (t ∷ ts) = ended_run n t ++ lines_of_turn t ++ lines_after (go_count n t) ts

abbrev pub lines_of_trace : Trace → List Line
lines_of_trace trace = Start (user_assignments trace.first) ∷ mem_lines trace.first.writes ++ lines_after 0 trace.turns
