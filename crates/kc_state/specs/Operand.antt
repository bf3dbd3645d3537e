-- Abstract operands and their addresses, this project's own: what is known of those of the processor.
use Rattle.std.specs.Prelude.{ℕ, ◌+◌, ◌-◌, ◌*◌, ◌/◌, cond, Option, Some, None, List, get_or, slice_set}
use Rattle.std.specs.Int.{w64, cast_unsigned}
use Rattle.kc_bits.specs.KnownBits.{KnownBits}
use Rattle.kc_bits.specs.Bits.{word, all_of, bits_add, bits_cut, bits_single}
use Rattle.kc_insn.specs.declared.insn.Base.{Base}
use Rattle.kc_insn.specs.declared.insn.Base.TheVariants as base
use Rattle.kc_insn.specs.declared.insn.Mem.{Mem}
use Rattle.kc_insn.specs.declared.insn.Place.{Place}
use Rattle.kc_insn.specs.declared.insn.Reg.{Reg}
use Rattle.kc_insn.specs.declared.insn.Source.{Source}
use Rattle.kc_insn.specs.declared.insn.Source.TheVariants as source
use Rattle.kc_insn.specs.Fields.{source_of}
use Rattle.kc_regions.specs.Description.{Description}
use Rattle.kc_regions.specs.Region.{stack_of}
use Rattle.kc_space.specs.declared.who.Who.{Who}
use Rattle.kc_space.specs.declared.who.Who.TheVariants as who
use Rattle.kc_value.specs.AbsValue.{AbsValue}
use Rattle.kc_value.specs.Made.{constant, derived}
use Rattle.kc_value.specs.Value.{value_top}
use Rattle.kc_words.specs.Flags.{bits_of, cut}
use Rattle.kc_words.specs.declared.width.Width.{Width}
use Rattle.kc_words.specs.declared.width.Width.TheVariants.{Byte, Long, Quad}
use Rattle.kc_state.specs.Location.{location_of}
use Rattle.kc_state.specs.Memory.{loaded}
use Rattle.kc_state.specs.Shift.{shifted}
use Rattle.kc_state.specs.declared.key.Key.{Key}
use Rattle.kc_state.specs.declared.location.Location.{Location}
use Rattle.kc_state.specs.declared.cpu.AbsCpu.{AbsCpu}

-- what is known before an instruction of the processor and of the tracked words, and the address after the instruction
pub record AbsMoment : Type 0 where
  pub d : Description
  pub key : Key
  pub cpu : AbsCpu
  pub slots : List AbsValue
  pub next : ℕ

-- ---- registers

abbrev pub register : AbsCpu → Reg → AbsValue
register cpu r = get_or cpu.regs r.0 value_top

abbrev pub with_register : Reg → AbsValue → AbsCpu → AbsCpu
with_register r v cpu = record cpu { regs = slice_set cpu.regs r.0 v }

-- ---- numbers and bits

-- the number n at its own place
abbrev pub number_value : Description → ℕ → AbsValue
number_value d n = constant n (stack_of d.regions n)

abbrev pub bits_value : Description → KnownBits → AbsValue
bits_value d b = derived (stack_of d.regions) b

-- what an operand of this width takes of a value: all of it, or the bits of the width, with 0 above them
abbrev pub at_width : Description → Width → AbsValue → AbsValue
at_width d Quad v = v
at_width d Long v = bits_value d (bits_cut 32 v.bits)
at_width d Byte v = bits_value d (bits_cut 8 v.bits)

-- the number of a value whose bits of this width are all known
abbrev pub known_at : Width → AbsValue → Option ℕ
known_at w v = bits_single (bits_cut (bits_of w) v.bits)

-- ---- addresses

abbrev pub base_value : AbsMoment → Base → AbsValue
base_value m base.Absent = number_value m.d 0
base_value m base.Rip = number_value m.d m.next
base_value m (base.Reg r) = register m.cpu r

-- a word times 1, 2, 4 or 8
abbrev pub scaled_bits : KnownBits → ℕ → KnownBits
scaled_bits b scale = record { zeros = word (b.zeros * scale) + (scale - 1); ones = word (b.ones * scale) }

-- with an index: the sum of the bits of base, index times scale and displacement, in this order
abbrev pub indexed_bits : AbsMoment → Mem → Reg × ℕ → KnownBits
indexed_bits m a i =
    bits_add (bits_add (base_value m a.base).bits (scaled_bits (register m.cpu i.0).bits i.1))
    (all_of (cast_unsigned w64 a.disp))

abbrev pub effective_by : AbsMoment → Mem → Option (Reg × ℕ) → AbsValue
effective_by m a None = shifted m.d m.key (base_value m a.base) a.disp
effective_by m a (Some i) = bits_value m.d (indexed_bits m a i)

-- the effective address: the base moved by the displacement, or with an index a sum of bits
abbrev pub effective : AbsMoment → Mem → AbsValue
effective m a = effective_by m a a.index

-- with the prefix 65 the kernel's GS base is added, where it is the active one; else nothing is known
abbrev pub with_gs_base : AbsMoment → Who → AbsValue → AbsValue
with_gs_base m who.Kernel v = bits_value m.d (bits_add v.bits (all_of m.d.cpu.kernel_gs))
with_gs_base m who.User v = value_top
with_gs_base m who.Any v = value_top

abbrev pub linear : AbsMoment → Mem → AbsValue
linear m a = cond a.gs (with_gs_base m m.cpu.gs.active (effective m a)) (effective m a)

-- ---- operands

abbrev pub load_at : AbsMoment → Width → Option Location → AbsValue
load_at m w (Some l) = loaded m.d m.key l (bits_of w / 8) m.slots
load_at m w None = value_top

-- what is known of the bytes to which a value points
abbrev pub load_by : AbsMoment → Width → AbsValue → AbsValue
load_by m w v = load_at m w (location_of m.key v)

-- the operand at this width
abbrev pub operand : AbsMoment → Width → Source → AbsValue
operand m w (source.Reg r) = at_width m.d w (register m.cpu r)
operand m w (source.Mem a) = load_by m w (linear m a)
operand m w (source.Imm z) = number_value m.d (cut w (cast_unsigned w64 z))

-- the same of an operand that may be written
abbrev pub destination : AbsMoment → Width → Place → AbsValue
destination m w dest = operand m w (source_of dest)
