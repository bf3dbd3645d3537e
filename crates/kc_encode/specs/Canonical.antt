-- The chosen spelling of each instruction, this project's own choice among the spellings of the
-- grammar, with the opcode lines of Intel SDM vol. 2. The rules: REX only where a bit of it is in use,
-- the shortest displacement and immediate, a SIB byte only where one is needed, the register operand
-- in the reg field where both operands are registers, jumps by a distance of 32 bits.
use Rattle.std.specs.Prelude.{ℕ, ◌+◌, ◌-◌, ◌*◌, ◌%◌, ◌^◌, Bool, true, false, not, ◌&&◌, ◌||◌, ◌==◌, nat_lt, nat_le, if◌then◌else◌, List, [], ◌∷◌, ◌++◌, Option, Some, None, ℤ, pos, negsuc, int_le, int_lt}
use Rattle.std.specs.Ordering.{int_eq}
use Rattle.std.specs.Int.{w8, w32, w64, cast_signed, cast_unsigned, to_le_bytes}
use Rattle.kc_words.specs.declared.width.Width.{Width}
use Rattle.kc_words.specs.declared.width.Width.TheVariants.{Byte, Long, Quad}
use Rattle.kc_insn.specs.declared.insn.Reg.{Reg}
use Rattle.kc_insn.specs.declared.insn.Base.{Base}
use Rattle.kc_insn.specs.declared.insn.Base.TheVariants as base
use Rattle.kc_insn.specs.declared.insn.Place.{Place}
use Rattle.kc_insn.specs.declared.insn.Place.TheVariants as place
use Rattle.kc_insn.specs.declared.insn.Source.{Source}
use Rattle.kc_insn.specs.declared.insn.Source.TheVariants as source
use Rattle.kc_insn.specs.declared.insn.AluOp.{AluOp}
use Rattle.kc_insn.specs.declared.insn.AluOp.TheVariants as alu
use Rattle.kc_insn.specs.declared.insn.BitOp.{BitOp}
use Rattle.kc_insn.specs.declared.insn.BitOp.TheVariants as bits
use Rattle.kc_insn.specs.declared.insn.Insn.{Insn}
use Rattle.kc_insn.specs.declared.insn.Insn.TheVariants.{Nop, Endbr64, Lfence, Ud2, Cld, Clac, Stac, Cli, Sti, Swapgs, Sysretq, Iretq, Rdmsr, Wrmsr, Pushfq, Popfq, Ret, ReadCr3, WriteCr3, ReadGs, WriteGs, Mov, Lea, Xchg, Push, Pop, Alu, Test, Bit, Jcc, Jmp, Call}
use Rattle.kc_insn.specs.declared.rex.Rex.{Rex}
use Rattle.kc_insn.specs.Fields.{worth}
use Rattle.kc_insn.specs.Spells.{gs_bytes}
use Rattle.kc_insn.specs.Encodable.{is_signed_long}

-- ---- numbers

-- what a byte can hold that is sign-extended
unfoldable pub is_signed_byte : ℤ → Bool
is_signed_byte z = int_le (negsuc 127) z && int_lt z (pos 128)

-- a number in two's complement, in one byte (ib, cb), four (id, cd) or eight (iq)
abbrev pub one_byte : ℤ → List ℕ
one_byte z = cast_unsigned w8 z ∷ []

unfoldable pub four_bytes : ℤ → List ℕ
four_bytes z = to_le_bytes w32 (cast_unsigned w32 z)

unfoldable pub eight_bytes : ℤ → List ℕ
eight_bytes z = to_le_bytes w64 (cast_unsigned w64 z)

-- ---- registers and REX: SDM vol. 2, "REX Prefixes"

-- the low three bits of a register's number, for a field of three bits
abbrev pub low : Reg → ℕ
low r = r.0 % 8

-- the fourth bit, for a bit of REX
abbrev pub high : Reg → Bool
high r = nat_le 8 r.0

-- REX where one of its bits is in use
unfoldable pub rex : Bool → Bool → Bool → Bool → Option Rex
rex w r x b = if w || (r || (x || b)) then Some (record { w = w; r = r; x = x; b = b }) else None

unfoldable pub rex_bytes : Option Rex → List ℕ
rex_bytes None = []
rex_bytes (Some rex) = (64 + worth rex.w 8 + worth rex.r 4 + worth rex.x 2 + worth rex.b 1) ∷ []

-- REX.W is in use
abbrev pub is_quad : Width → Bool
is_quad Byte = false
is_quad Long = false
is_quad Quad = true

-- ---- memory operands: SDM vol. 2, "ModR/M and SIB Bytes"

-- the mod field for a displacement from a base register: 0 where there is none, which RBP and R13
-- can't have; 1 for one byte; 2 for four bytes
unfoldable pub mode : Reg → ℤ → ℕ
mode r disp =
    if int_eq disp (pos 0) && not (low r == 5) then 0 else
    if is_signed_byte disp then 1 else 2

unfoldable pub disp_bytes : ℕ → ℤ → List ℕ
disp_bytes mode disp = if mode == 0 then [] else if mode == 1 then one_byte disp else four_bytes disp

abbrev pub modrm : ℕ → ℕ → ℕ → ℕ
modrm mode reg rm = 64 * mode + 8 * reg + rm

abbrev pub scale_field : ℕ → ℕ
scale_field scale = if scale == 1 then 0 else if scale == 2 then 1 else if scale == 4 then 2 else 3

-- index 4 with scale bits 0 where there is no index
unfoldable pub sib : Option (Reg × ℕ) → ℕ → ℕ
sib None field = 8 * 4 + field
sib (Some index) field = 64 * scale_field index.1 + 8 * low index.0 + field

-- RSP and R12 as a base stand in a SIB byte, and so does every base beside an index
unfoldable pub needs_sib : Reg → Option (Reg × ℕ) → Bool
needs_sib r None = low r == 4
needs_sib r (Some index) = true

-- ModRM with this reg field, SIB and displacement
unfoldable pub memory : ℕ → Base → Option (Reg × ℕ) → ℤ → List ℕ
memory reg base.Rip index disp = modrm 0 reg 5 ∷ four_bytes disp
memory reg base.Absent index disp = modrm 0 reg 4 ∷ sib index 5 ∷ four_bytes disp
memory reg (base.Reg r) index disp =
    if needs_sib r index
    then modrm (mode r disp) reg 4 ∷ sib index (low r) ∷ disp_bytes (mode r disp) disp
    else modrm (mode r disp) reg (low r) ∷ disp_bytes (mode r disp) disp

unfoldable pub operand : ℕ → Place → List ℕ
operand reg (place.Reg r) = modrm 3 reg (low r) ∷ []
operand reg (place.Mem m) = memory reg m.base m.index m.disp

-- what the operand rm takes of the prefixes: the prefix 65, REX.X and REX.B
abbrev pub gs : Place → Bool
gs (place.Reg r) = false
gs (place.Mem m) = m.gs

abbrev pub index_high : Option (Reg × ℕ) → Bool
index_high None = false
index_high (Some index) = high index.0

abbrev pub base_high : Base → Bool
base_high base.Absent = false
base_high base.Rip = false
base_high (base.Reg r) = high r

abbrev pub x_of : Place → Bool
x_of (place.Reg r) = false
x_of (place.Mem m) = index_high m.index

abbrev pub b_of : Place → Bool
b_of (place.Reg r) = high r
b_of (place.Mem m) = base_high m.base

-- ---- opcode lines

-- +r: a register in the last opcode byte
unfoldable pub opcode_register : Bool → ℕ → Reg → List ℕ
opcode_register w opcode r = rex_bytes (rex w false false (high r)) ++ (opcode + low r) ∷ []

-- /r: a register in the reg field
unfoldable pub with_register : Width → ℕ → Reg → Place → List ℕ
with_register w opcode reg rm =
    gs_bytes (gs rm) ++ rex_bytes (rex (is_quad w) (high reg) (x_of rm) (b_of rm)) ++ opcode ∷ operand (low reg) rm

-- /n: an opcode extension in the reg field
unfoldable pub with_digit : Width → List ℕ → ℕ → Place → List ℕ
with_digit w opcode n rm =
    gs_bytes (gs rm) ++ rex_bytes (rex (is_quad w) false (x_of rm) (b_of rm)) ++ opcode ++ operand n rm

-- /n with a register and no width
unfoldable pub on_register : Bool → List ℕ → ℕ → Reg → List ℕ
on_register w opcode n r = rex_bytes (rex w false false (high r)) ++ opcode ++ operand n (place.Reg r)

-- ---- instructions by their operands

-- B8+r id; C7 /0 id, and B8+r iq for what isn't a signed number of 32 bits
abbrev pub mov_immediate : Width → Reg → ℤ → List ℕ
mov_immediate Quad d z =
    if is_signed_long z
    then with_digit Quad (0xC7 ∷ []) 0 (place.Reg d) ++ four_bytes z
    else opcode_register true 0xB8 d ++ eight_bytes z
mov_immediate w d z = opcode_register false 0xB8 d ++ four_bytes z

-- 89 /r; 8B /r; C7 /0 id
abbrev pub mov : Width → Place → Source → List ℕ
mov w p (source.Reg s) = with_register w 0x89 s p
mov w (place.Reg d) (source.Mem m) = with_register w 0x8B d (place.Mem m)
mov w (place.Mem n) (source.Mem m) = []
mov w (place.Reg d) (source.Imm z) = mov_immediate w d z
mov w (place.Mem m) (source.Imm z) = with_digit w (0xC7 ∷ []) 0 (place.Mem m) ++ four_bytes z

-- 50+r; FF /6; 6A ib, 68 id
abbrev pub push : Source → List ℕ
push (source.Reg r) = opcode_register false 0x50 r
push (source.Mem m) = with_digit Long (0xFF ∷ []) 6 (place.Mem m)
push (source.Imm z) = if is_signed_byte z then 0x6A ∷ one_byte z else 0x68 ∷ four_bytes z

-- 58+r; 8F /0
abbrev pub pop : Place → List ℕ
pop (place.Reg r) = opcode_register false 0x58 r
pop (place.Mem m) = with_digit Long (0x8F ∷ []) 0 (place.Mem m)

-- the opcode extension of an immediate's form; the opcodes are 8 times it and 1, and 3
abbrev pub alu_digit : AluOp → ℕ
alu_digit alu.Add = 0
alu_digit alu.Or = 1
alu_digit alu.And = 4
alu_digit alu.Sub = 5
alu_digit alu.Xor = 6
alu_digit alu.Cmp = 7

-- the signed number whose lowest bits are those of an immediate
unfoldable pub signed_at : Width → ℤ → ℤ
signed_at Quad z = z
signed_at w z = cast_signed w32 (cast_unsigned w32 z)

-- 01, 09, 21, 29, 31, 39 /r; 03, 0B, 23, 2B, 33, 3B /r; 83 /n ib, 81 /n id
abbrev pub arithmetic : AluOp → Width → Place → Source → List ℕ
arithmetic op w p (source.Reg s) = with_register w (8 * alu_digit op + 1) s p
arithmetic op w (place.Reg d) (source.Mem m) = with_register w (8 * alu_digit op + 3) d (place.Mem m)
arithmetic op w (place.Mem n) (source.Mem m) = []
arithmetic op w p (source.Imm z) =
    if is_signed_byte (signed_at w z)
    then with_digit w (0x83 ∷ []) (alu_digit op) p ++ one_byte (signed_at w z)
    else with_digit w (0x81 ∷ []) (alu_digit op) p ++ four_bytes z

-- the low bytes of RSP, RBP, RSI and RDI, which no instruction without REX has
abbrev pub needs_rex : Place → Bool
needs_rex (place.Reg r) = nat_le 4 r.0 && nat_lt r.0 8
needs_rex (place.Mem m) = false

-- F6 /0 ib; F7 /0 id
abbrev pub test_immediate : Width → Place → ℤ → List ℕ
test_immediate Byte p z =
    if needs_rex p
    then 0x40 ∷ 0xF6 ∷ operand 0 p ++ one_byte z
    else with_digit Byte (0xF6 ∷ []) 0 p ++ one_byte z
test_immediate w p z = with_digit w (0xF7 ∷ []) 0 p ++ four_bytes z

-- 85 /r
abbrev pub test : Width → Place → Source → List ℕ
test w p (source.Reg s) = with_register w 0x85 s p
test w p (source.Mem m) = []
test w p (source.Imm z) = test_immediate w p z

-- 0F BA /4, /5, /6 ib
abbrev pub bit_digit : BitOp → ℕ
bit_digit bits.«Test» = 4
bit_digit bits.Set = 5
bit_digit bits.Reset = 6

-- ---- jumps

-- how far the target lies from the address after the jump: modulo 2^64, as a signed number
abbrev pub distance : ℕ → ℕ → ℤ
distance next target = cast_signed w64 ((target + (2 ^ 64 - next % 2 ^ 64)) % 2 ^ 64)

-- the target's distance is a signed number of 32 bits
abbrev pub in_reach : ℕ → ℕ → Bool
in_reach next target = is_signed_long (distance next target)

-- whether an instruction at this address reaches its target, where it has one
abbrev pub reaches : Insn → ℕ → Bool
reaches (Jcc c target) at = in_reach (at + 6) target
reaches (Jmp target) at = in_reach (at + 5) target
reaches (Call target) at = in_reach (at + 5) target
reaches insn at = true

-- ---- whole instructions

-- the chosen spelling of an encodable instruction that reaches its target
unfoldable pub canonical_bytes : Insn → ℕ → List ℕ
canonical_bytes Nop at = 0x90 ∷ []
canonical_bytes Endbr64 at = 0xF3 ∷ 0x0F ∷ 0x1E ∷ 0xFA ∷ []
canonical_bytes Lfence at = 0x0F ∷ 0xAE ∷ 0xE8 ∷ []
canonical_bytes Ud2 at = 0x0F ∷ 0x0B ∷ []
canonical_bytes Cld at = 0xFC ∷ []
canonical_bytes Clac at = 0x0F ∷ 0x01 ∷ 0xCA ∷ []
canonical_bytes Stac at = 0x0F ∷ 0x01 ∷ 0xCB ∷ []
canonical_bytes Cli at = 0xFA ∷ []
canonical_bytes Sti at = 0xFB ∷ []
canonical_bytes Swapgs at = 0x0F ∷ 0x01 ∷ 0xF8 ∷ []
canonical_bytes Sysretq at = 0x48 ∷ 0x0F ∷ 0x07 ∷ []
canonical_bytes Iretq at = 0x48 ∷ 0xCF ∷ []
canonical_bytes Rdmsr at = 0x0F ∷ 0x32 ∷ []
canonical_bytes Wrmsr at = 0x0F ∷ 0x30 ∷ []
canonical_bytes Pushfq at = 0x9C ∷ []
canonical_bytes Popfq at = 0x9D ∷ []
canonical_bytes Ret at = 0xC3 ∷ []
canonical_bytes (ReadCr3 r) at = on_register false (0x0F ∷ 0x20 ∷ []) 3 r
canonical_bytes (WriteCr3 r) at = on_register false (0x0F ∷ 0x22 ∷ []) 3 r
canonical_bytes (ReadGs r) at = 0xF3 ∷ on_register true (0x0F ∷ 0xAE ∷ []) 1 r
canonical_bytes (WriteGs r) at = 0xF3 ∷ on_register true (0x0F ∷ 0xAE ∷ []) 3 r
canonical_bytes (Mov w p s) at = mov w p s
canonical_bytes (Lea w r m) at = with_register w 0x8D r (place.Mem m)
canonical_bytes (Xchg w p r) at = with_register w 0x87 r p
canonical_bytes (Push s) at = push s
canonical_bytes (Pop p) at = pop p
canonical_bytes (Alu op w p s) at = arithmetic op w p s
canonical_bytes (Test w p s) at = test w p s
canonical_bytes (Bit op w p n) at = with_digit w (0x0F ∷ 0xBA ∷ []) (bit_digit op) p ++ n ∷ []
canonical_bytes (Jcc c target) at = 0x0F ∷ (0x80 + c) ∷ four_bytes (distance (at + 6) target)
canonical_bytes (Jmp target) at = 0xE9 ∷ four_bytes (distance (at + 5) target)
canonical_bytes (Call target) at = 0xE8 ∷ four_bytes (distance (at + 5) target)
