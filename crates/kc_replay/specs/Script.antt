-- When a text is a trace for a description: this project's own.
use Rattle.std.specs.Prelude.{◌≡◌, ℕ, List, Result, Ok, Err}
use Rattle.kc_regions.specs.Description.{Description}
use Rattle.kc_machine.specs.Start.{MayStart}
use Rattle.kc_trace.specs.declared.fault.TraceFault.{TraceFault}
use Rattle.kc_trace.specs.declared.fault.TraceFault.TheVariants.{BadLine, BadNumber, NotAdmitted, NoMemory}
use Rattle.kc_trace.specs.declared.gathered.Gathered.{Gathered}
use Rattle.kc_trace.specs.declared.line.Line.{Line}
use Rattle.kc_trace.specs.Script.{scripted}
use Rattle.kc_replay.specs.Turns.{first_set}

-- The text's lines have no fault, and user code may start as they say, or not.
pub record Starts (cfg : Description) (text : List ℕ) (lines : List Line) : Type 0 where
  pub read : Gathered
  pub scripted : scripted text ≡ Ok read
  pub says : read.lines ≡ lines
  pub admitted : MayStart cfg (first_set cfg lines)

pub record IsNotAdmitted (cfg : Description) (text : List ℕ) (number : ℕ) : Type 0 where
  pub read : Gathered
  pub scripted : scripted text ≡ Ok read
  pub at : number ≡ read.start
  pub refused : ¬ MayStart cfg (first_set cfg read.lines)

-- The lines that the text says, or its first fault. That the start isn't admitted comes after all faults by line.
abbrev pub Reads : Description → List ℕ → Result (List Line) TraceFault → Type 0
Reads cfg text (Ok lines) = Starts cfg text lines
Reads cfg text (Err (BadLine n)) = scripted text ≡ Err (BadLine n)
Reads cfg text (Err (BadNumber n)) = scripted text ≡ Err (BadNumber n)
Reads cfg text (Err (NotAdmitted n)) = IsNotAdmitted cfg text n
Reads cfg text (Err NoMemory) = Unit {0}
