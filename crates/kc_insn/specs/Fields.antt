-- The fields of an instruction's bytes: Intel SDM vol. 2, "Instruction Format".
use Rattle.std.specs.Prelude.{◌≡◌, ◌≢◌, ℕ, suc, ◌+◌, ◌-◌, ◌*◌, ◌%◌, ◌^◌, ◌<◌, Bool, true, false, ◌==◌, ◌&&◌, if◌then◌else◌, List, [], ◌∷◌, Option, Some, None, ℤ, pos, negsuc, nat_lt}
use Rattle.std.specs.Int.{w8, w32, w64, cast_signed, cast_unsigned}
use Rattle.kc_words.specs.declared.width.Width.{Width}
use Rattle.kc_words.specs.declared.width.Width.TheVariants.{Byte, Long, Quad}
use Rattle.kc_reading.specs.Reading.{IsNumber}
use Rattle.kc_insn.specs.declared.insn.Reg.{Reg}
use Rattle.kc_insn.specs.declared.insn.Base.{Base}
use Rattle.kc_insn.specs.declared.insn.Base.TheVariants as base
use Rattle.kc_insn.specs.declared.insn.Mem.{Mem}
use Rattle.kc_insn.specs.declared.insn.Place.{Place}
use Rattle.kc_insn.specs.declared.insn.Place.TheVariants as place
use Rattle.kc_insn.specs.declared.insn.Source.{Source}
use Rattle.kc_insn.specs.declared.insn.Source.TheVariants as source
use Rattle.kc_insn.specs.declared.rex.Rex.{Rex}

-- ---- REX: SDM vol. 2, "REX Prefixes"

-- a bit's worth at its place
abbrev pub worth : Bool → ℕ → ℕ
worth true n = n
worth false n = 0

-- no REX byte, or one byte 0100WRXB
abbrev pub IsRex : List ℕ → Option Rex → Type 0
IsRex bytes None = bytes ≡ []
IsRex bytes (Some rex) = bytes ≡ (64 + worth rex.w 8 + worth rex.r 4 + worth rex.x 2 + worth rex.b 1) ∷ []

-- a bit of REX, which is 0 without the byte
abbrev pub w_bit : Option Rex → Bool
w_bit None = false
w_bit (Some rex) = rex.w

abbrev pub r_bit : Option Rex → Bool
r_bit None = false
r_bit (Some rex) = rex.r

abbrev pub x_bit : Option Rex → Bool
x_bit None = false
x_bit (Some rex) = rex.x

abbrev pub b_bit : Option Rex → Bool
b_bit None = false
b_bit (Some rex) = rex.b

-- ---- registers and operand width

abbrev pub register : ℕ → Reg
register n = record { 0 = n }

-- the register of a field of three bits, with the REX bit that extends it
abbrev pub extended : Bool → ℕ → Reg
extended bit n = register (worth bit 8 + n)

-- the column L/Q
abbrev pub width_of : Option Rex → Width
width_of rex = if w_bit rex then Quad else Long

-- ---- numbers in the bytes

-- the signed number that v stands for in n bytes, as two's complement; 0 in no bytes
abbrev pub signed : ℕ → ℕ → ℤ
signed n v = if nat_lt v (2 ^ (8 * n - 1)) then pos v else negsuc (2 ^ (8 * n) - suc v)

abbrev pub IsSigned : ℕ → List ℕ → ℤ → Type 0
IsSigned n bytes z = (v : ℕ) × IsNumber n bytes v × (z ≡ signed n v)

-- ---- immediates, of one byte (ib) or four (id)

pub data Size : Type 0 where
  ib : Size
  id : Size

abbrev pub size_bytes : Size → ℕ
size_bytes ib = 1
size_bytes id = 4

-- the immediate that the number v of its bytes stands for at an operand's width
abbrev pub immediate : Width → Size → ℕ → ℤ
immediate Byte size v = pos v
immediate Long ib v = pos (cast_unsigned w32 (cast_signed w8 v))
immediate Long id v = pos v
immediate Quad size v = signed (size_bytes size) v

abbrev pub IsImmediate : Width → Size → List ℕ → ℤ → Type 0
IsImmediate w size bytes z = (v : ℕ) × IsNumber (size_bytes size) bytes v × (z ≡ immediate w size v)

-- the address that a jump's distance leads to from the end of the jump
abbrev pub target : ℕ → ℤ → ℕ
target next z = (next + cast_unsigned w64 z) % 2 ^ 64

-- ---- memory operands: SDM vol. 2, "ModR/M and SIB Bytes", in 64-bit mode

-- the bytes of the displacement by mod, and where field 5 with mod 0 stands for no base register
abbrev pub disp_bytes : ℕ → ℕ → ℕ
disp_bytes mode field = if mode == 0 then (if field == 5 then 4 else 0) else if mode == 1 then 1 else 4

abbrev pub base_of : Base → Option Rex → ℕ → ℕ → Base
base_of special rex mode field = if mode == 0 && field == 5 then special else base.Reg (extended (b_bit rex) field)

-- index 4 without REX.X is no index
abbrev pub index_of : Option Rex → ℕ → ℕ → Option (Reg × ℕ)
index_of rex scale index =
    if (worth (x_bit rex) 8 + index) == 4 then None else Some (extended (x_bit rex) index, 2 ^ scale)

-- the bytes after the ModRM byte of a memory operand
pub data IsMemory (gs : Bool) (rex : Option Rex) (mode rm : ℕ) (bytes : List ℕ) (mem : Mem) : Type 0 where
  -- base register or RIP, and a displacement
  no_sib : (disp : ℤ) → rm ≢ 4 → x_bit rex ≡ false → IsSigned (disp_bytes mode rm) bytes disp
      → mem ≡ record { gs = gs; base = base_of base.Rip rex mode rm; index = None; disp = disp }
      → IsMemory gs rex mode rm bytes mem
  -- a SIB byte, and a displacement
  sib : (scale index field : ℕ) (rest : List ℕ) (disp : ℤ) → rm ≡ 4 → scale < 4 → index < 8 → field < 8
      → bytes ≡ (64 * scale + 8 * index + field) ∷ rest → IsSigned (disp_bytes mode field) rest disp
      → mem ≡ record {
        gs = gs;
        base = base_of base.Absent rex mode field;
        index = index_of rex scale index;
        disp =
            disp;
      } → IsMemory gs rex mode rm bytes mem

-- the bytes after the ModRM byte of any operand rm
pub data IsRm (gs : Bool) (rex : Option Rex) (mode rm : ℕ) (bytes : List ℕ) (operand : Place) : Type 0 where
  in_register : mode ≡ 3 → gs ≡ false → x_bit rex ≡ false → bytes ≡ [] → operand ≡ place.Reg (extended (b_bit rex) rm)
      → IsRm gs rex mode rm bytes operand
  in_memory : (mem : Mem) → mode < 3 → IsMemory gs rex mode rm bytes mem → operand ≡ place.Mem mem
      → IsRm gs rex mode rm bytes operand

-- the ModRM byte with this reg field, and what belongs to its operand rm
pub record IsOperand (gs : Bool) (rex : Option Rex) (reg : ℕ) (bytes : List ℕ) (operand : Place) : Type 0 where
  pub mode : ℕ
  pub rm : ℕ
  pub rest : List ℕ
  pub mode_range : mode < 4
  pub reg_range : reg < 8
  pub rm_range : rm < 8
  pub modrm : bytes ≡ (64 * mode + 8 * reg + rm) ∷ rest
  pub operand_is : IsRm gs rex mode rm rest operand

-- an operand rm that is read
abbrev pub source_of : Place → Source
source_of (place.Reg r) = source.Reg r
source_of (place.Mem m) = source.Mem m
