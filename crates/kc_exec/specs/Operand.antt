-- Operands and their addresses: Intel SDM vol. 1, "Operand Addressing" ("Specifying an Offset", "RIP-Relative
-- Addressing", "Segment Registers in 64-Bit Mode").
use Rattle.std.specs.Prelude.{ℕ, ◌+◌, ◌*◌, ◌%◌, ◌^◌, cond, false, List, [], ◌∷◌, Option, Some, None}
use Rattle.std.specs.Int.{w64, cast_unsigned}
use Rattle.kc_words.specs.declared.width.Width.{Width}
use Rattle.kc_words.specs.declared.width.Width.TheVariants.{Byte, Long, Quad}
use Rattle.kc_words.specs.Flags.{cut}
use Rattle.kc_insn.specs.declared.insn.Reg.{Reg}
use Rattle.kc_insn.specs.declared.insn.Base.{Base}
use Rattle.kc_insn.specs.declared.insn.Base.TheVariants as base
use Rattle.kc_insn.specs.declared.insn.Mem.{Mem}
use Rattle.kc_insn.specs.declared.insn.Place.{Place}
use Rattle.kc_insn.specs.declared.insn.Place.TheVariants as place
use Rattle.kc_insn.specs.declared.insn.Source.{Source}
use Rattle.kc_insn.specs.declared.insn.Source.TheVariants as source
use Rattle.kc_insn.specs.Fields.{source_of}
use Rattle.kc_regions.specs.declared.touch.Touch.{Touch}
use Rattle.kc_regions.specs.declared.touch.Touch.TheVariants.{Read}
use Rattle.kc_cpu.specs.declared.cpu.Cpu.{Cpu}
use Rattle.kc_mem.specs.Memory.{read}
use Rattle.kc_exec.specs.declared.access.Access.{Access}
use Rattle.kc_exec.specs.declared.access.Write.{Write}
use Rattle.kc_exec.specs.Moment.{Moment}
use Rattle.kc_exec.specs.Register.{register, with_register}

-- ---- addresses

-- a sum of addresses, which wraps at 2^64
abbrev pub plus : ℕ → ℕ → ℕ
plus a b = (a + b) % 2 ^ 64

abbrev pub base_value : Moment → Base → ℕ
base_value m base.Absent = 0
base_value m base.Rip = m.next
base_value m (base.Reg r) = register m.cpu r

-- the index times the scale
abbrev pub scaled_index : Moment → Option (Reg × ℕ) → ℕ
scaled_index m None = 0
scaled_index m (Some i) = register m.cpu i.0 * i.1 % 2 ^ 64

-- the effective address: base, index and displacement
abbrev pub effective : Moment → Mem → ℕ
effective m a = plus (plus (base_value m a.base) (scaled_index m a.index)) (cast_unsigned w64 a.disp)

-- the linear address: with the prefix 65 the active GS base is added
abbrev pub linear : Moment → Mem → ℕ
linear m a = plus (effective m a) (cond a.gs m.cpu.gs 0)

-- ---- what an instruction reads

-- how many bytes an operand of this width has
abbrev pub size_of : Width → ℕ
size_of Byte = 1
size_of Long = 4
size_of Quad = 8

-- the operand's value at this width
abbrev pub operand : Moment → Width → Source → ℕ
operand m w (source.Reg r) = cut w (register m.cpu r)
operand m w (source.Mem a) = read m.mem (linear m a) (size_of w)
operand m w (source.Imm z) = cut w (cast_unsigned w64 z)

-- the same of an operand that may be written
abbrev pub destination : Moment → Width → Place → ℕ
destination m w dest = operand m w (source_of dest)

-- a read of so many bytes, of an address without the prefix 65
abbrev pub plain_read : ℕ → ℕ → Access
plain_read at size = record { at = at; size = size; touch = Read; gs = false }

-- the access by which the operand is read
abbrev pub reads_of : Moment → Width → Source → List Access
reads_of m w (source.Reg r) = []
reads_of m w (source.Mem a) = record { at = linear m a; size = size_of w; touch = Read; gs = a.gs } ∷ []
reads_of m w (source.Imm z) = []

-- ---- what an instruction writes

-- the processor after a result goes into the operand
abbrev pub with_result : Place → ℕ → Cpu → Cpu
with_result (place.Reg r) v cpu = with_register r v cpu
with_result (place.Mem a) v cpu = cpu

-- the write by which a result goes into the operand
abbrev pub write_of : Moment → Width → Place → ℕ → Option Write
write_of m w (place.Reg r) v = None
write_of m w (place.Mem a) v = Some (record { at = linear m a; width = w; value = v; gs = a.gs })
