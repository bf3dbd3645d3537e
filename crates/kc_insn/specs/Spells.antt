-- The instruction grammar: which bytes at which address spell which instruction. The rows are the
-- table's; prefixes and REX go by Intel SDM vol. 2, "Instruction Prefixes" and "REX Prefixes", and by
-- this project's own rule on them: a prefix or a bit of REX is there only where the row has the field that it
-- changes. REX.B may be there without effect, as before a memory operand without a base register.
use Rattle.std.specs.Prelude.{◌≡◌, ℕ, ◌+◌, ◌<◌, ◌≤◌, Bool, true, false, not, ◌&&◌, ◌||◌, if◌then◌else◌, List, [], ◌∷◌, ◌++◌, length, replicate, Option, Some, None, ℤ, pos}
use Rattle.std.specs.Int.{w64, cast_signed}
use Rattle.kc_words.specs.declared.width.Width.{Width}
use Rattle.kc_words.specs.declared.width.Width.TheVariants.{Byte, Quad}
use Rattle.kc_reading.specs.Reading.{IsNumber}
use Rattle.kc_insn.specs.declared.insn.Mem.{Mem}
use Rattle.kc_insn.specs.declared.insn.Reg.{Reg}
use Rattle.kc_insn.specs.declared.insn.Place.{Place}
use Rattle.kc_insn.specs.declared.insn.Place.TheVariants as place
use Rattle.kc_insn.specs.declared.insn.Source.{Source}
use Rattle.kc_insn.specs.declared.insn.Source.TheVariants as source
use Rattle.kc_insn.specs.declared.insn.BitOp.{BitOp}
use Rattle.kc_insn.specs.declared.insn.Insn.{Insn}
use Rattle.kc_insn.specs.declared.insn.Insn.TheVariants.{Nop, Mov, Lea, Push, Test, Bit}
use Rattle.kc_insn.specs.declared.rex.Rex.{Rex}
use Rattle.kc_insn.specs.Fields.{worth, IsRex, w_bit, r_bit, b_bit, register, extended, width_of, IsSigned, Size, ib, id, size_bytes, IsImmediate, target, IsOperand}
use Rattle.kc_insn.specs.Table.{Form, plain, plain_w, last_byte, opcode_register, register_imm, rm_reg, reg_rm, address, rm_imm, rm_byte_imm, rm_bit, rm_quad, rm_register, rm_register_w, rm_unused, imm_quad, rax_imm, al_imm, relative, lookup, one_byte, two_byte, two_byte_f3}

-- ---- which prefixes a form takes

-- it has an operand rm, which may be memory: REX.X extends a SIB byte's index
abbrev pub has_rm : Form → Bool
has_rm (rm_reg make) = true
has_rm (reg_rm make) = true
has_rm address = true
has_rm (rm_imm select size) = true
has_rm rm_byte_imm = true
has_rm (rm_bit select) = true
has_rm (rm_quad n make) = true
has_rm rm_unused = true
has_rm form = false

-- it has a register in field reg: REX.R extends it
abbrev pub has_reg : Form → Bool
has_reg (rm_reg make) = true
has_reg (reg_rm make) = true
has_reg address = true
has_reg form = false

-- it has a ModRM byte or a register in the opcode: REX.B extends it, and REX may stand with no bit in use
abbrev pub has_register : Form → Bool
has_register (opcode_register make r) = true
has_register (register_imm r) = true
has_register (rm_register select) = true
has_register (rm_register_w select) = true
has_register form = has_rm form

-- it reads or writes memory at the operand rm: the prefix 65 may stand
abbrev pub has_access : Form → Bool
has_access address = false
has_access rm_unused = false
has_access form = has_rm form

-- the column L/Q: REX.W may stand
abbrev pub has_width : Form → Bool
has_width (register_imm r) = true
has_width (rm_reg make) = true
has_width (reg_rm make) = true
has_width address = true
has_width (rm_imm select size) = true
has_width (rm_bit select) = true
has_width rax_imm = true
has_width form = false

-- REX.W is written in the row
abbrev pub needs_w : Form → Bool
needs_w (plain_w insn) = true
needs_w (rm_register_w select) = true
needs_w form = false

abbrev pub permits_rex : Form → Option Rex → Bool
permits_rex form None = not (needs_w form)
permits_rex form (Some rex) =
    (if rex.w then has_width form || needs_w form else not (needs_w form))
    && (not rex.r || has_reg form)
    && (not rex.x || has_rm form)
    && (not rex.b || has_register form)
    && (rex.w || rex.r || rex.x || rex.b || has_register form)

abbrev pub permits : Form → Bool → Option Rex → Bool
permits form gs rex = (not gs || has_access form) && permits_rex form rex

-- ---- what stands after the opcode

-- an instruction, or a jump and the distance of its target from its end
pub data Draft : Type 0 where
  whole : Insn → Draft
  jump : (ℕ → Insn) → ℤ → Draft

-- without a REX byte only AL, CL, DL and BL are the low bytes of their registers
abbrev pub IsLowByte : Option Rex → Place → Type 0
IsLowByte None (place.Reg r) = r.0 < 4
IsLowByte rex operand = Unit {0}

-- a byte that selects the instruction
pub record HasLastByte (select : ℕ → Option Insn) (tail : List ℕ) (d : Draft) : Type 0 where
  pub byte : ℕ
  pub insn : Insn
  pub tail_is : tail ≡ byte ∷ []
  pub byte_range : byte < 256
  pub selected : select byte ≡ Some insn
  pub draft_is : d ≡ whole insn

-- an operand rm, whose reg field selects the instruction, and an immediate of the operand's width
pub record HasImmediate (select : ℕ → Option (Width → Place → Source → Insn)) (size : Size) (gs : Bool)
    (rex : Option Rex) (tail : List ℕ) (d : Draft) : Type 0 where
  pub reg : ℕ
  pub make : Width → Place → Source → Insn
  pub rm : Place
  pub rm_bytes : List ℕ
  pub imm_bytes : List ℕ
  pub value : ℤ
  pub tail_is : tail ≡ rm_bytes ++ imm_bytes
  pub selected : select reg ≡ Some make
  pub operand : IsOperand gs rex reg rm_bytes rm
  pub immediate_is : IsImmediate (width_of rex) size imm_bytes value
  pub draft_is : d ≡ whole (make (width_of rex) rm (source.Imm value))

-- F6 /0 ib: an operand rm of one byte, and an immediate
pub record HasByteImmediate (gs : Bool) (rex : Option Rex) (tail : List ℕ) (d : Draft) : Type 0 where
  pub rm : Place
  pub rm_bytes : List ℕ
  pub imm_bytes : List ℕ
  pub value : ℤ
  pub tail_is : tail ≡ rm_bytes ++ imm_bytes
  pub operand : IsOperand gs rex 0 rm_bytes rm
  pub low_byte : IsLowByte rex rm
  pub immediate_is : IsImmediate Byte ib imm_bytes value
  pub draft_is : d ≡ whole (Test Byte rm (source.Imm value))

-- an operand rm, whose reg field selects the operation, and the number of a bit in one byte
pub record HasBit (select : ℕ → Option BitOp) (gs : Bool) (rex : Option Rex) (tail : List ℕ) (d : Draft) : Type 0 where
  pub reg : ℕ
  pub op : BitOp
  pub rm : Place
  pub rm_bytes : List ℕ
  pub bit_bytes : List ℕ
  pub bit : ℕ
  pub tail_is : tail ≡ rm_bytes ++ bit_bytes
  pub selected : select reg ≡ Some op
  pub operand : IsOperand gs rex reg rm_bytes rm
  pub bit_is : IsNumber 1 bit_bytes bit
  pub draft_is : d ≡ whole (Bit op (width_of rex) rm bit)

-- a register as the operand rm, whose reg field selects the instruction
pub record HasRegister (select : ℕ → Option (Reg → Insn)) (gs : Bool) (rex : Option Rex) (tail : List ℕ) (d : Draft) :
    Type 0 where
  pub reg : ℕ
  pub make : Reg → Insn
  pub rm : Reg
  pub selected : select reg ≡ Some make
  pub operand : IsOperand gs rex reg tail (place.Reg rm)
  pub draft_is : d ≡ whole (make rm)

abbrev pub IsTail : Form → Bool → Option Rex → List ℕ → Draft → Type 0
IsTail (plain insn) gs rex tail d = (tail ≡ []) × (d ≡ whole insn)
IsTail (plain_w insn) gs rex tail d = (tail ≡ []) × (d ≡ whole insn)
IsTail (last_byte select) gs rex tail d = HasLastByte select tail d
IsTail (opcode_register make r) gs rex tail d = (tail ≡ []) × (d ≡ whole (make (extended (b_bit rex) r)))
IsTail (register_imm r) gs rex tail d = (v : ℕ) × IsNumber (if w_bit rex then 8 else 4) tail v
    × (d ≡ whole (Mov (width_of rex) (place.Reg (extended (b_bit rex) r))
    (source.Imm (if w_bit rex then cast_signed w64 v else pos v))))
IsTail (rm_reg make) gs rex tail d = (reg : ℕ) × (rm : Place) × IsOperand gs rex reg tail rm
    × (d ≡ whole (make (width_of rex) rm (extended (r_bit rex) reg)))
IsTail (reg_rm make) gs rex tail d = (reg : ℕ) × (rm : Place) × IsOperand gs rex reg tail rm
    × (d ≡ whole (make (width_of rex) (extended (r_bit rex) reg) rm))
IsTail address gs rex tail d = (reg : ℕ) × (mem : Mem) × IsOperand gs rex reg tail (place.Mem mem)
    × (d ≡ whole (Lea (width_of rex) (extended (r_bit rex) reg) mem))
IsTail (rm_imm select size) gs rex tail d = HasImmediate select size gs rex tail d
IsTail rm_byte_imm gs rex tail d = HasByteImmediate gs rex tail d
IsTail (rm_bit select) gs rex tail d = HasBit select gs rex tail d
IsTail (rm_quad n make) gs rex tail d = (rm : Place) × IsOperand gs rex n tail rm × (d ≡ whole (make rm))
IsTail (rm_register select) gs rex tail d = HasRegister select gs rex tail d
IsTail (rm_register_w select) gs rex tail d = HasRegister select gs rex tail d
IsTail rm_unused gs rex tail d = (rm : Place) × IsOperand gs rex 0 tail rm × (d ≡ whole Nop)
IsTail (imm_quad size) gs rex tail d = (z : ℤ) × IsImmediate Quad size tail z × (d ≡ whole (Push (source.Imm z)))
IsTail rax_imm gs rex tail d = (z : ℤ) × IsImmediate (width_of rex) id tail z
    × (d ≡ whole (Test (width_of rex) (place.Reg (register 0)) (source.Imm z)))
IsTail al_imm gs rex tail d = (z : ℤ) × IsImmediate Byte ib tail z
    × (d ≡ whole (Test Byte (place.Reg (register 0)) (source.Imm z)))
IsTail (relative make size) gs rex tail d = (z : ℤ) × IsSigned (size_bytes size) tail z × (d ≡ jump make z)

-- ---- whole instructions

-- the prefix 65, for the active GS base
abbrev pub gs_bytes : Bool → List ℕ
gs_bytes true = 0x65 ∷ []
gs_bytes false = []

-- a padding prefix 2E
abbrev pub cs_bytes : Bool → List ℕ
cs_bytes true = 0x2E ∷ []
cs_bytes false = []

-- the bytes spell the instruction or jump, whatever their number
pub data Spelled (bytes : List ℕ) (d : Draft) : Type 0 where
  in_one_byte : (gs : Bool) (rex : Option Rex) (rex_bytes : List ℕ) (op : ℕ) (form : Form) (tail : List ℕ)
      → bytes ≡ gs_bytes gs ++ (rex_bytes ++ op ∷ tail)
      → IsRex rex_bytes rex → lookup op one_byte ≡ Some form → permits form gs rex ≡ true → IsTail form gs rex tail d
      → Spelled bytes d
  in_two_bytes : (gs : Bool) (rex : Option Rex) (rex_bytes : List ℕ) (op : ℕ) (form : Form) (tail : List ℕ)
      → bytes ≡ gs_bytes gs ++ (rex_bytes ++ 0x0F ∷ op ∷ tail)
      → IsRex rex_bytes rex → lookup op two_byte ≡ Some form → permits form gs rex ≡ true → IsTail form gs rex tail d
      → Spelled bytes d
  after_f3 : (rex : Option Rex) (rex_bytes : List ℕ) (op : ℕ) (form : Form) (tail : List ℕ)
      → bytes ≡ 0xF3 ∷ (rex_bytes ++ 0x0F ∷ op ∷ tail)
      → IsRex rex_bytes rex → lookup op two_byte_f3 ≡ Some form → permits form false rex ≡ true
      → IsTail form false rex tail d → Spelled bytes d
  -- 66 90
  short_nop : bytes ≡ 0x66 ∷ 0x90 ∷ [] → d ≡ whole Nop → Spelled bytes d
  -- any number of 66, then at most one 2E, before 0F 1F /0
  long_nop : (n : ℕ) (cs : Bool) (rex : Option Rex) (rex_bytes tail : List ℕ) → 0 < n + worth cs 1
      → bytes ≡ replicate n 0x66 ++ (cs_bytes cs ++ (rex_bytes ++ 0x0F ∷ 0x1F ∷ tail))
      → IsRex rex_bytes rex → permits rm_unused false rex ≡ true → IsTail rm_unused false rex tail d → Spelled bytes d

-- the instruction, where the address after it is `next`
abbrev pub resolve : ℕ → Draft → Insn
resolve next (whole insn) = insn
resolve next (jump make z) = make (target next z)

-- as Spells, without the bound of fifteen bytes
abbrev pub SpellsUnbounded : List ℕ → ℕ → Insn → Type 0
SpellsUnbounded bytes at insn = (d : Draft) × Spelled bytes d × (insn ≡ resolve (at + length bytes) d)

-- the whole of the bytes, at this address, spell the instruction: SDM vol. 2, "Instruction Format"
abbrev pub Spells : List ℕ → ℕ → Insn → Type 0
Spells bytes at insn = (length bytes ≤ 15) × SpellsUnbounded bytes at insn
