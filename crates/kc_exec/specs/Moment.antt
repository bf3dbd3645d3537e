-- What an instruction finds when it runs. This project's own.
use Rattle.std.specs.Prelude.{ℕ}
use Rattle.kc_regions.specs.Description.{Description}
use Rattle.kc_cpu.specs.declared.cpu.Cpu.{Cpu}
use Rattle.kc_cpu.specs.declared.cpu.Latch.{Latch}
use Rattle.std.specs.Coded.{Coded, coded_ℕ}
use Rattle.std.specs.FinMap as map
use Rattle.kc_mem.specs.Memory.{Bytes}

-- bytes are stored as a finite map
abbrev pub bytes_code : Coded Bytes
bytes_code = map.code coded_ℕ coded_ℕ

-- the description, the processor and its latches, the bytes of memory, and the address after the instruction
pub record Moment : Type 0 where
  pub cfg : Description
  pub cpu : Cpu
  pub latch : Latch
  pub mem : Bytes
  pub next : ℕ
