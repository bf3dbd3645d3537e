-- The text of an instruction, this project's own choice among the assemblers' ways, with the operands in the order of
-- Intel SDM vol. 2.
use Rattle.std.specs.Prelude.{ℕ, zero, suc, ◌-◌, ◌==◌, Bool, true, false, if◌then◌else◌, List, [], ◌∷◌, ◌++◌, length}
use Rattle.std.specs.Prelude.{replicate, slice_index_or, Option, Some, None, ℤ, pos, negsuc, codes}
use Rattle.std.specs.Fmt.{digits}
use Rattle.kc_words.specs.declared.width.Width.{Width}
use Rattle.kc_words.specs.declared.width.Width.TheVariants.{Byte, Long, Quad}
use Rattle.kc_insn.specs.declared.insn.Reg.{Reg}
use Rattle.kc_insn.specs.declared.insn.Base.{Base}
use Rattle.kc_insn.specs.declared.insn.Base.TheVariants as base
use Rattle.kc_insn.specs.declared.insn.Mem.{Mem}
use Rattle.kc_insn.specs.declared.insn.Place.{Place}
use Rattle.kc_insn.specs.declared.insn.Place.TheVariants as place
use Rattle.kc_insn.specs.declared.insn.Source.{Source}
use Rattle.kc_insn.specs.declared.insn.Source.TheVariants as source
use Rattle.kc_insn.specs.declared.insn.AluOp.{AluOp}
use Rattle.kc_insn.specs.declared.insn.AluOp.TheVariants as alu
use Rattle.kc_insn.specs.declared.insn.BitOp.{BitOp}
use Rattle.kc_insn.specs.declared.insn.BitOp.TheVariants as bits
use Rattle.kc_insn.specs.declared.insn.Insn.{Insn}
use Rattle.kc_insn.specs.declared.insn.Insn.TheVariants.{Nop, Endbr64, Lfence, Ud2, Cld, Clac, Stac, Cli, Sti, Swapgs}
use Rattle.kc_insn.specs.declared.insn.Insn.TheVariants.{Sysretq, Iretq, Rdmsr, Wrmsr, Pushfq, Popfq, Ret, ReadCr3}
use Rattle.kc_insn.specs.declared.insn.Insn.TheVariants.{WriteCr3, ReadGs, WriteGs, Mov, Lea, Xchg, Push, Pop, Alu}
use Rattle.kc_insn.specs.declared.insn.Insn.TheVariants.{Test, Bit, Jcc, Jmp, Call}

-- ---- numbers

-- `0x` and lower-case hexadecimal digits without leading zeros
abbrev pub hex : ℕ → List ℕ
hex n = codes "0x" ++ digits 16 false n

-- with `-` before it where the number is negative
abbrev pub number : ℤ → List ℕ
number (pos n) = hex n
number (negsuc n) = codes "-" ++ hex (suc n)

-- `0x` and sixteen digits
abbrev pub target_text : ℕ → List ℕ
target_text a = codes "0x" ++ replicate (16 - length (digits 16 false a)) 48 ++ digits 16 false a

-- ---- registers

-- a word for each width
abbrev pub by_width : List ℕ → List ℕ → List ℕ → Width → List ℕ
by_width quad long byte Quad = quad
by_width quad long byte Long = long
by_width quad long byte Byte = byte

-- the names by number: SDM vol. 2, "Register Encoding"
abbrev pub register_names : List (Width → List ℕ)
register_names =
    by_width (codes "rax") (codes "eax") (codes "al") ∷
    by_width (codes "rcx") (codes "ecx") (codes "cl") ∷
    by_width (codes "rdx") (codes "edx") (codes "dl") ∷
    by_width (codes "rbx") (codes "ebx") (codes "bl") ∷
    by_width (codes "rsp") (codes "esp") (codes "spl") ∷
    by_width (codes "rbp") (codes "ebp") (codes "bpl") ∷
    by_width (codes "rsi") (codes "esi") (codes "sil") ∷
    by_width (codes "rdi") (codes "edi") (codes "dil") ∷
    by_width (codes "r8") (codes "r8d") (codes "r8b") ∷
    by_width (codes "r9") (codes "r9d") (codes "r9b") ∷
    by_width (codes "r10") (codes "r10d") (codes "r10b") ∷
    by_width (codes "r11") (codes "r11d") (codes "r11b") ∷
    by_width (codes "r12") (codes "r12d") (codes "r12b") ∷
    by_width (codes "r13") (codes "r13d") (codes "r13b") ∷
    by_width (codes "r14") (codes "r14d") (codes "r14b") ∷
    by_width (codes "r15") (codes "r15d") (codes "r15b") ∷ []

-- a register has a name where it is one of the sixteen
abbrev pub register_text : Width → Reg → List ℕ
register_text w r = slice_index_or register_names r.0 (λ _. []) w

-- ---- memory operands

abbrev pub size_word : Width → List ℕ
size_word = by_width (codes "qword ") (codes "dword ") (codes "byte ")

-- scale 1 is left out with its star
abbrev pub scale_text : ℕ → List ℕ
scale_text scale =
    if scale == 2 then codes "*2" else
    if scale == 4 then codes "*4" else
    if scale == 8 then codes "*8" else []

abbrev pub index_text : Reg × ℕ → List ℕ
index_text i = register_text Quad i.0 ++ scale_text i.1

-- base and index, the absent parts left out
abbrev pub parts_text : Base → Option (Reg × ℕ) → List ℕ
parts_text base.Absent None = []
parts_text base.Absent (Some i) = index_text i
parts_text base.Rip None = codes "rip"
parts_text base.Rip (Some i) = codes "rip" ++ codes "+" ++ index_text i
parts_text (base.Reg r) None = register_text Quad r
parts_text (base.Reg r) (Some i) = register_text Quad r ++ codes "+" ++ index_text i

-- a displacement after a base or an index: 0 is left out
abbrev pub disp_text : ℤ → List ℕ
disp_text (pos zero) = []
disp_text (pos (suc n)) = codes "+" ++ hex (suc n)
disp_text (negsuc n) = codes "-" ++ hex (suc n)

-- a displacement alone is a number
abbrev pub address_text : Base → Option (Reg × ℕ) → ℤ → List ℕ
address_text base.Absent None disp = number disp
address_text base index disp = parts_text base index ++ disp_text disp

abbrev pub gs_text : Bool → List ℕ
gs_text true = codes "gs:"
gs_text false = []

abbrev pub memory_text : Mem → List ℕ
memory_text m = gs_text m.gs ++ codes "[" ++ address_text m.base m.index m.disp ++ codes "]"

-- ---- operands

abbrev pub place_text : Width → Place → List ℕ
place_text w (place.Reg r) = register_text w r
place_text w (place.Mem m) = memory_text m

abbrev pub source_text : Width → Source → List ℕ
source_text w (source.Reg r) = register_text w r
source_text w (source.Mem m) = memory_text m
source_text w (source.Imm z) = number z

-- a memory operand that has no register beside it has its size word before it
abbrev pub sized_text : Width → Place → List ℕ
sized_text w (place.Reg r) = register_text w r
sized_text w (place.Mem m) = size_word w ++ memory_text m

-- two operands, the one that is written first
abbrev pub operands_text : Width → Place → Source → List ℕ
operands_text w p (source.Reg s) = place_text w p ++ codes ", " ++ register_text w s
operands_text w p (source.Mem m) = place_text w p ++ codes ", " ++ memory_text m
operands_text w p (source.Imm z) = sized_text w p ++ codes ", " ++ number z

-- ---- instructions

-- the conditions by their code: SDM vol. 2, "Jcc"
abbrev pub condition_suffixes : List (List ℕ)
condition_suffixes =
    codes "o" ∷ codes "no" ∷ codes "b" ∷ codes "ae" ∷ codes "z" ∷ codes "nz" ∷ codes "be" ∷ codes "a" ∷
    codes "s" ∷ codes "ns" ∷ codes "p" ∷ codes "np" ∷ codes "l" ∷ codes "ge" ∷ codes "le" ∷ codes "g" ∷ []

-- a condition has a suffix where its code is below 16
abbrev pub condition_text : ℕ → List ℕ
condition_text c = slice_index_or condition_suffixes c []

abbrev pub alu_text : AluOp → List ℕ
alu_text alu.Add = codes "add"
alu_text alu.Or = codes "or"
alu_text alu.And = codes "and"
alu_text alu.Sub = codes "sub"
alu_text alu.Xor = codes "xor"
alu_text alu.Cmp = codes "cmp"

abbrev pub bit_text : BitOp → List ℕ
bit_text bits.«Test» = codes "bt"
bit_text bits.Set = codes "bts"
bit_text bits.Reset = codes "btr"

-- the mnemonic and, after one blank, the operands
abbrev pub text_of : Insn → List ℕ
text_of Nop = codes "nop"
text_of Endbr64 = codes "endbr64"
text_of Lfence = codes "lfence"
text_of Ud2 = codes "ud2"
text_of Cld = codes "cld"
text_of Clac = codes "clac"
text_of Stac = codes "stac"
text_of Cli = codes "cli"
text_of Sti = codes "sti"
text_of Swapgs = codes "swapgs"
text_of Sysretq = codes "sysretq"
text_of Iretq = codes "iretq"
text_of Rdmsr = codes "rdmsr"
text_of Wrmsr = codes "wrmsr"
text_of Pushfq = codes "pushfq"
text_of Popfq = codes "popfq"
text_of Ret = codes "ret"
text_of (ReadCr3 r) = codes "mov " ++ register_text Quad r ++ codes ", cr3"
text_of (WriteCr3 r) = codes "mov cr3, " ++ register_text Quad r
text_of (ReadGs r) = codes "rdgsbase " ++ register_text Quad r
text_of (WriteGs r) = codes "wrgsbase " ++ register_text Quad r
text_of (Mov w p s) = codes "mov" ++ codes " " ++ operands_text w p s
text_of (Lea w r m) = codes "lea " ++ register_text w r ++ codes ", " ++ memory_text m
text_of (Xchg w p r) = codes "xchg " ++ place_text w p ++ codes ", " ++ register_text w r
text_of (Push s) = codes "push " ++ source_text Quad s
text_of (Pop p) = codes "pop " ++ place_text Quad p
text_of (Alu op w p s) = alu_text op ++ codes " " ++ operands_text w p s
text_of (Test w p s) = codes "test" ++ codes " " ++ operands_text w p s
text_of (Bit op w p n) = bit_text op ++ codes " " ++ sized_text w p ++ codes ", " ++ number (pos n)
text_of (Jcc c t) = codes "j" ++ condition_text c ++ codes " " ++ target_text t
text_of (Jmp t) = codes "jmp " ++ target_text t
text_of (Call t) = codes "call " ++ target_text t
