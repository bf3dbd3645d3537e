-- What is read of a trace's text: this project's own. Since every value is written, the lines say the same start under
-- each description, and the same turns on each processor that they meet.
use Rattle.std.specs.Prelude.{◌≡◌, ℕ, ◌^◌, ◌<◌, ◌≤◌, List, length, map, Ok, IfSome}
use Rattle.std.specs.List.{All}
use Rattle.kc_regions.specs.Description.{Description}
use Rattle.kc_cpu.specs.declared.cpu.Cpu.{Cpu}
use Rattle.kc_events.specs.declared.turn.UserSet.{UserSet}
use Rattle.kc_events.specs.declared.turn.BodySet.{BodySet}
use Rattle.kc_events.specs.declared.turn.LeaveSet.{LeaveSet}
use Rattle.kc_events.specs.declared.turn.Turn.{Turn}
use Rattle.kc_events.specs.declared.turn.Turn.TheVariants.{Go, Irq, Nmi, Debug, Check, Fault, Trap, Syscall, User, Body, Leave}
use Rattle.kc_events.specs.declared.turn.Trace.{Trace}
use Rattle.kc_trace.specs.declared.gathered.Gathered.{Gathered}
use Rattle.kc_trace.specs.Script.{scripted}
use Rattle.kc_replay.specs.Values.{scratch}
use Rattle.kc_replay.specs.Turns.{turns_of, first_set}

-- ---- a trace whose numbers are in the ranges of their types

abbrev pub IsWord : ℕ → Type 0
IsWord n = n < 2 ^ 64

abbrev pub AreRegisters : List ℕ → Type 0
AreRegisters regs = (length regs ≡ 16) × All IsWord regs

-- an address and a byte
abbrev pub IsWrite : ℕ × ℕ → Type 0
IsWrite w = IsWord w.0 × (w.1 < 256)

pub record IsUser (u : UserSet) : Type 0 where
  pub regs : AreRegisters u.regs
  pub rip : IsWord u.rip
  pub flags : IsWord u.flags
  pub cs : u.cs < 2 ^ 16
  pub gs : IsWord u.gs
  pub writes : All IsWrite u.writes

pub record IsBody (b : BodySet) : Type 0 where
  pub regs : AreRegisters b.regs
  pub rip : IsWord b.rip
  pub flags : IsWord b.flags
  pub writes : All IsWrite b.writes
  pub due_rip : IfSome b.edit.rip IsWord
  pub due_flags : IfSome b.edit.flags IsWord
  pub due_rsp : IfSome b.edit.rsp IsWord

-- The registers that a `leave` line can't name are 0, as the reader has them.
pub record IsLeave (l : LeaveSet) : Type 0 where
  pub regs : AreRegisters l.regs
  pub flags : IsWord l.flags
  pub given_back : scratch l.regs ≡ l.regs

abbrev pub IsWritable : Turn → Type 0
IsWritable Go = Unit {0}
IsWritable (Irq v) = v < 256
IsWritable Nmi = Unit {0}
IsWritable Debug = Unit {0}
IsWritable Check = Unit {0}
IsWritable (Fault a code) = IsWord a × (code < 2 ^ 32)
IsWritable (Trap v code) = (v < 256) × (code < 2 ^ 32)
IsWritable Syscall = Unit {0}
IsWritable (User u) = IsUser u
IsWritable (Body b) = IsBody b
IsWritable (Leave l) = IsLeave l

-- no more turns than are read
pub record IsPrintable (trace : Trace) : Type 0 where
  pub first : IsUser trace.first
  pub turns : All IsWritable trace.turns
  pub few : length trace.turns ≤ 1000000

-- ---- what its text says

-- The text has no fault, and its lines say the trace; a processor has sixteen registers.
pub record Says (cfg : Description) (trace : Trace) (text : List ℕ) : Type 0 where
  pub read : Gathered
  pub accepted : scripted text ≡ Ok read
  pub first : first_set cfg read.lines ≡ trace.first
  pub turns : (cpu : Cpu) → length cpu.regs ≡ 16 → map (λ turn. turn cpu) (turns_of cfg read.lines) ≡ trace.turns
