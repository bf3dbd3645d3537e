-- Which instructions have a spelling, reach of targets aside: this project's own choice of operands.
use Rattle.std.specs.Prelude.{ℕ, Bool, true, false, not, ◌&&◌, ◌||◌, ◌==◌, nat_lt, Option, Some, None, is_none, ℤ, pos, negsuc, int_le, int_lt}
use Rattle.kc_words.specs.declared.width.Width.{Width}
use Rattle.kc_words.specs.declared.width.Width.TheVariants.{Byte, Long, Quad}
use Rattle.kc_insn.specs.declared.insn.Reg.{Reg}
use Rattle.kc_insn.specs.declared.insn.Base.{Base}
use Rattle.kc_insn.specs.declared.insn.Base.TheVariants as base
use Rattle.kc_insn.specs.declared.insn.Mem.{Mem}
use Rattle.kc_insn.specs.declared.insn.Place.{Place}
use Rattle.kc_insn.specs.declared.insn.Place.TheVariants as place
use Rattle.kc_insn.specs.declared.insn.Source.{Source}
use Rattle.kc_insn.specs.declared.insn.Source.TheVariants as source
use Rattle.kc_insn.specs.declared.insn.Insn.{Insn}
use Rattle.kc_insn.specs.declared.insn.Insn.TheVariants.{ReadCr3, WriteCr3, ReadGs, WriteGs, Mov, Lea, Xchg, Push, Pop, Alu, Test, Bit, Jcc}

-- one of the sixteen registers
abbrev pub is_register : Reg → Bool
is_register r = nat_lt r.0 16

-- RSP is no index
abbrev pub is_index : Option (Reg × ℕ) → Bool
is_index None = true
is_index (Some i) = nat_lt i.0.0 16 && (not (i.0.0 == 4) && (i.1 == 1 || (i.1 == 2 || (i.1 == 4 || i.1 == 8))))

-- RIP has no index beside it
abbrev pub is_address : Base → Option (Reg × ℕ) → Bool
is_address base.Absent index = is_index index
is_address base.Rip index = is_none index
is_address (base.Reg r) index = is_register r && is_index index

abbrev pub is_memory : Mem → Bool
is_memory m = is_address m.base m.index

abbrev pub is_place : Place → Bool
is_place (place.Reg r) = is_register r
is_place (place.Mem m) = is_memory m

-- 32 or 64 bits
abbrev pub is_wide : Width → Bool
is_wide Byte = false
is_wide Long = true
is_wide Quad = true

-- an immediate that is sign-extended from 32 bits
abbrev pub is_signed_long : ℤ → Bool
is_signed_long z = int_le (negsuc 2147483647) z && int_lt z (pos 2147483648)

-- an immediate of an operand of this width
abbrev pub is_immediate : Width → ℤ → Bool
is_immediate Byte z = int_le (pos 0) z && int_lt z (pos 256)
is_immediate Long z = int_le (pos 0) z && int_lt z (pos 4294967296)
is_immediate Quad z = is_signed_long z

-- the operands of MOV: a Quad register takes any immediate
abbrev pub is_move : Width → Place → Source → Bool
is_move w (place.Reg d) (source.Reg s) = is_register d && is_register s
is_move w (place.Reg d) (source.Mem m) = is_register d && is_memory m
is_move Quad (place.Reg d) (source.Imm z) = is_register d
is_move Byte (place.Reg d) (source.Imm z) = false
is_move Long (place.Reg d) (source.Imm z) = is_register d && is_immediate Long z
is_move w (place.Mem m) (source.Reg s) = is_memory m && is_register s
is_move w (place.Mem m) (source.Mem n) = false
is_move w (place.Mem m) (source.Imm z) = is_memory m && is_immediate w z

-- the operands of arithmetic: not two in memory
abbrev pub is_pair : Width → Place → Source → Bool
is_pair w (place.Reg d) (source.Reg s) = is_register d && is_register s
is_pair w (place.Reg d) (source.Mem m) = is_register d && is_memory m
is_pair w (place.Mem m) (source.Reg s) = is_memory m && is_register s
is_pair w (place.Mem m) (source.Mem n) = false
is_pair w p (source.Imm z) = is_place p && is_immediate w z

-- the operands of TEST; it alone has the width Byte, with an immediate
abbrev pub is_test : Width → Place → Source → Bool
is_test w p (source.Reg s) = is_wide w && (is_place p && is_register s)
is_test w p (source.Mem m) = false
is_test w p (source.Imm z) = is_place p && is_immediate w z

abbrev pub is_pushed : Source → Bool
is_pushed (source.Reg r) = is_register r
is_pushed (source.Mem m) = is_memory m
is_pushed (source.Imm z) = is_signed_long z

abbrev pub is_encodable : Insn → Bool
is_encodable (ReadCr3 r) = is_register r
is_encodable (WriteCr3 r) = is_register r
is_encodable (ReadGs r) = is_register r
is_encodable (WriteGs r) = is_register r
is_encodable (Mov w p s) = is_wide w && is_move w p s
is_encodable (Lea w r m) = is_wide w && (is_register r && (not m.gs && is_memory m))
is_encodable (Xchg w p r) = is_wide w && (is_place p && is_register r)
is_encodable (Push s) = is_pushed s
is_encodable (Pop p) = is_place p
is_encodable (Alu op w p s) = is_wide w && is_pair w p s
is_encodable (Test w p s) = is_test w p s
is_encodable (Bit op w p n) = is_wide w && is_place p
is_encodable (Jcc c target) = nat_lt c 16
is_encodable insn = true
