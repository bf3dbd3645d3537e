-- A whole trace and its first fault by line: this project's own.
use Rattle.std.specs.Prelude.{ℕ, ◌+◌, false, not, List, [], ◌∷◌, ◌++◌, Result, Ok, Err, if◌then◌else◌}
use Rattle.kc_rules.specs.Rules.{refuse, over, ◌>>=◌}
use Rattle.kc_trace.specs.declared.fault.LineFault.{LineFault}
use Rattle.kc_trace.specs.declared.fault.LineFault.TheVariants.{Form, Number, NoMemory as NoMemoryForLine}
use Rattle.kc_trace.specs.declared.fault.TraceFault.{TraceFault}
use Rattle.kc_trace.specs.declared.fault.TraceFault.TheVariants.{BadLine, BadNumber, NoMemory}
use Rattle.kc_trace.specs.declared.line.Line.{Line}
use Rattle.kc_trace.specs.declared.gathered.Gathered.{Gathered}
use Rattle.kc_trace.specs.Words.{lines_of, is_passed_over}
use Rattle.kc_trace.specs.Form.{line_of, place_after, turns_of}

-- before the first line
abbrev pub nothing : Gathered
nothing =
    record { count = 0; start = 0; place = record { begun = false; takes_bytes = false; left = 1000000 }; lines = [] }

-- a line that says nothing is counted all the same
abbrev pub passed : Gathered → Gathered
passed g = record g { count = g.count + 1 }

-- the next line, with its number
abbrev pub with_line : Gathered → Line → Gathered
with_line g line = record {
  count = g.count + 1;
  start = if g.place.begun then g.start else g.count + 1;
  place = place_after g.place line;
  lines = g.lines ++ line ∷ [];
}

-- a line's fault, by its number
abbrev pub fault_at : ℕ → LineFault → TraceFault
fault_at n Form = BadLine n
fault_at n Number = BadNumber n
fault_at n NoMemoryForLine = NoMemory

abbrev pub with_read : Gathered → Result Line LineFault → Result Gathered TraceFault
with_read g (Ok line) = Ok (with_line g line)
with_read g (Err fault) = Err (fault_at (g.count + 1) fault)

abbrev pub add_line : Gathered → List ℕ → Result Gathered TraceFault
add_line g text = if is_passed_over text then Ok (passed g) else with_read g (line_of g.place text)

-- the lines in their order, counted from 1
abbrev pub gathered : List ℕ → Result Gathered TraceFault
gathered text = over add_line nothing (lines_of text)

-- What the text says. Where no line counts, `start` is missing at the number after the last line.
unfoldable pub scripted : List ℕ → Result Gathered TraceFault
scripted text = do
  g ← gathered text
  ok ← refuse (not g.place.begun) (BadLine (g.count + 1))
  Ok g

-- how many turns the lines are
abbrev pub count_of : List Line → ℕ
count_of [] = 0
count_of (line ∷ lines) = turns_of line + count_of lines
