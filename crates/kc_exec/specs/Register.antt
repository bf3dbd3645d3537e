-- The general registers: Intel SDM vol. 1, "General-Purpose Registers in 64-Bit Mode".
use Rattle.std.specs.Prelude.{ℕ, slice_index, slice_set}
use Rattle.kc_insn.specs.declared.insn.Reg.{Reg}
use Rattle.kc_cpu.specs.declared.cpu.Cpu.{Cpu}

abbrev pub numbered : ℕ → Reg
numbered n = record { 0 = n }

abbrev pub rax : Reg
rax = numbered 0

abbrev pub rcx : Reg
rcx = numbered 1

abbrev pub rdx : Reg
rdx = numbered 2

abbrev pub rbx : Reg
rbx = numbered 3

abbrev pub rsp : Reg
rsp = numbered 4

abbrev pub rbp : Reg
rbp = numbered 5

abbrev pub r11 : Reg
r11 = numbered 11

-- what the register holds
abbrev pub register : Cpu → Reg → ℕ
register cpu r = slice_index cpu.regs r.0

-- with all 64 bits of the register replaced: a result of 32 bits has 0 in the upper half
abbrev pub with_register : Reg → ℕ → Cpu → Cpu
with_register r v cpu = record cpu { regs = slice_set cpu.regs r.0 v }
