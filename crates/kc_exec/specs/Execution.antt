-- An instruction's accesses, how it ends, and what stands afterwards. This project's own.
use Rattle.std.specs.Prelude.{◌≡◌, ℕ, zero, suc, ◌+◌, ◌%◌, ◌^◌, ◌≤◌, Bool, true, false, cond, ◌||◌, List, [], ◌∷◌, ◌++◌, Option, Some, None}
use Rattle.std.specs.List.{list_any}
use Rattle.kc_words.specs.declared.width.Width.{Width}
use Rattle.kc_insn.specs.declared.insn.Insn.{Insn}
use Rattle.kc_regions.specs.declared.region.Region.{Region}
use Rattle.kc_regions.specs.declared.touch.Touch.TheVariants.{Fetch, Write as ForWrite}
use Rattle.kc_regions.specs.Description.{Description}
use Rattle.kc_regions.specs.Permission.{in_guard}
use Rattle.kc_cpu.specs.declared.cpu.Cpu.{Cpu}
use Rattle.kc_cpu.specs.declared.cpu.Latch.{Latch}
use Rattle.kc_mem.specs.Memory.{Bytes, next, write}
use Rattle.kc_exec.specs.declared.access.Access.{Access}
use Rattle.kc_exec.specs.declared.access.Write.{Write}
use Rattle.kc_exec.specs.declared.executed.ExecEnd.{ExecEnd}
use Rattle.kc_exec.specs.declared.executed.ExecEnd.TheVariants.{Next, Returned, Stopped, Forbidden}
use Rattle.kc_exec.specs.declared.executed.Executed.{Executed}
use Rattle.kc_exec.specs.Moment.{Moment}
use Rattle.kc_exec.specs.Operand.{plus, size_of}
use Rattle.kc_exec.specs.Breaks.{effect}

-- an instruction of so many bytes at RIP
abbrev pub moment : Description → Cpu → Latch → Bytes → ℕ → Moment
moment cfg cpu latch mem len = record { cfg = cfg; cpu = cpu; latch = latch; mem = mem; next = plus cpu.rip len }

-- the record of changes of such an instruction
abbrev pub executed : Description → Cpu → Latch → Bytes → ℕ → Insn → Executed
executed cfg cpu latch mem len insn = effect (moment cfg cpu latch mem len) insn

-- ---- accesses

abbrev pub fetch_of : Cpu → ℕ → Access
fetch_of cpu len = record { at = cpu.rip; size = len; touch = Fetch; gs = false }

abbrev pub access_of : Write → Access
access_of w = record { at = w.at; size = size_of w.width; touch = ForWrite; gs = w.gs }

abbrev pub write_access : Option Write → List Access
write_access None = []
write_access (Some w) = access_of w ∷ []

-- data accesses: reads, then the write
abbrev pub data_accesses : Executed → List Access
data_accesses done = done.reads ++ write_access done.write

-- the fetch of the instruction's bytes, then its data accesses
abbrev pub accesses_of : Cpu → ℕ → Executed → List Access
accesses_of cpu len done = fetch_of cpu len ∷ data_accesses done

-- ---- guards

-- one of the n bytes from address a on lies in a guard
abbrev pub guarded : List Region → ℕ → ℕ → Bool
guarded regions a zero = false
guarded regions a (suc n) = in_guard regions a || guarded regions (next a) n

-- an access has a byte in a guard
abbrev pub stops : Description → List Access → Bool
stops cfg accesses = list_any (λ a. guarded cfg.regions a.at a.size) accesses

-- ---- the end

-- the machine stops where an access has a byte in a guard, before any break of the instruction
abbrev pub end_of : Description → Cpu → ℕ → Executed → ExecEnd
end_of cfg cpu len done = cond (stops cfg (accesses_of cpu len done)) Stopped done.end

-- the instruction was executed
abbrev pub is_done : ExecEnd → Bool
is_done Next = true
is_done Returned = true
is_done Stopped = false
is_done (Forbidden n) = false

abbrev pub with_write : Option Write → Bytes → Bytes
with_write None mem = mem
with_write (Some w) mem = write mem w.at (size_of w.width) w.value
