-- Each number of a machine's state fits its register: what the types of the code say, for states that a definition
-- names. Registers and their sizes: Intel SDM vol. 1, "Basic Program Execution Registers".
use Rattle.std.specs.Prelude.{◌≡◌, ℕ, ◌^◌, ◌<◌, length, All}
use Rattle.kc_cpu.specs.declared.cpu.Cpu.{Cpu}
use Rattle.kc_cpu.specs.declared.cpu.Call.{Call}
use Rattle.kc_cpu.specs.declared.cpu.Mode.{Mode}
use Rattle.kc_cpu.specs.declared.cpu.Mode.TheVariants.{User, Code, Inside}
use Rattle.kc_mem.specs.Memory.{AreBytes}
use Rattle.kc_exec.specs.declared.state.Activation.{Activation}
use Rattle.kc_exec.specs.declared.state.State.{State}

abbrev pub IsWord : ℕ → Type 0
IsWord n = n < 2 ^ 64

abbrev pub IsSelector : ℕ → Type 0
IsSelector n = n < 2 ^ 16

pub record IsCall (c : Call) : Type 0 where
  pub rsp : IsWord c.rsp
  pub back : IsWord c.back
  pub flags : IsWord c.flags
  pub kept : (length c.kept ≡ 6) × All IsWord c.kept

abbrev pub IsMode : Mode → Type 0
IsMode User = Unit {0}
IsMode Code = Unit {0}
IsMode (Inside call) = IsCall call

pub record IsCpu (c : Cpu) : Type 0 where
  pub regs : (length c.regs ≡ 16) × All IsWord c.regs
  pub rip : IsWord c.rip
  pub flags : IsWord c.flags
  pub cs : IsSelector c.cs
  pub ss : IsSelector c.ss
  pub gs : IsWord c.gs
  pub kgs : IsWord c.kgs
  pub cr3 : IsWord c.cr3
  pub mode : IsMode c.mode

pub record IsActivation (a : Activation) : Type 0 where
  pub saved : IsCpu a.saved
  pub base : IsWord a.base
  pub due : IsCpu a.due

pub record IsMachine (S : State) : Type 0 where
  pub cpu : IsCpu S.cpu
  pub mem : AreBytes S.mem.bytes
  pub chain : All IsActivation S.chain
