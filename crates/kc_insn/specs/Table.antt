-- The table of instructions: opcode, operands and immediate of each row, with its opcode line of
-- Intel SDM vol. 2. Which rows there are is this project's own choice.
use Rattle.std.specs.Prelude.{ℕ, ◌+◌, ◌-◌, ◌==◌, ◌&&◌, nat_le, nat_lt, if◌then◌else◌, List, [], ◌∷◌, Option, Some, None}
use Rattle.kc_words.specs.declared.width.Width.{Width}
use Rattle.kc_insn.specs.declared.insn.Reg.{Reg}
use Rattle.kc_insn.specs.declared.insn.Place.{Place}
use Rattle.kc_insn.specs.declared.insn.Place.TheVariants as place
use Rattle.kc_insn.specs.declared.insn.Source.{Source}
use Rattle.kc_insn.specs.declared.insn.Source.TheVariants as source
use Rattle.kc_insn.specs.declared.insn.AluOp.{AluOp}
use Rattle.kc_insn.specs.declared.insn.AluOp.TheVariants as alu
use Rattle.kc_insn.specs.declared.insn.BitOp.{BitOp}
use Rattle.kc_insn.specs.declared.insn.BitOp.TheVariants as bits
use Rattle.kc_insn.specs.declared.insn.Insn.{Insn}
use Rattle.kc_insn.specs.declared.insn.Insn.TheVariants.{Nop, Endbr64, Lfence, Ud2, Cld, Clac, Stac, Cli, Sti, Swapgs, Sysretq, Iretq, Rdmsr, Wrmsr, Pushfq, Popfq, Ret, ReadCr3, WriteCr3, ReadGs, WriteGs, Mov, Xchg, Push, Pop, Alu, Test, Jcc, Jmp, Call}
use Rattle.kc_insn.specs.Fields.{Size, ib, id, source_of}

-- What stands after the opcode, and the instruction that it makes. A function from numbers says
-- which values of a ModRM byte's reg field (/n) or of a last opcode byte a row has.
pub data Form : Type 0 where
  -- nothing
  plain : Insn → Form
  -- nothing, with REX.W
  plain_w : Insn → Form
  -- one more opcode byte
  last_byte : (ℕ → Option Insn) → Form
  -- +r, a register in the opcode; 64 bits
  opcode_register : (Reg → Insn) → ℕ → Form
  -- +r id, and with REX.W +r iq
  register_imm : ℕ → Form
  -- /r, operand rm first; L/Q
  rm_reg : (Width → Place → Reg → Insn) → Form
  -- /r, operand reg first; L/Q
  reg_rm : (Width → Reg → Place → Insn) → Form
  -- /r with a memory operand, whose address alone is used; L/Q
  address : Form
  -- /n with an immediate; L/Q
  rm_imm : (ℕ → Option (Width → Place → Source → Insn)) → Size → Form
  -- /0 ib; Byte
  rm_byte_imm : Form
  -- /n ib, a bit number; L/Q
  rm_bit : (ℕ → Option BitOp) → Form
  -- /n; 64 bits
  rm_quad : ℕ → (Place → Insn) → Form
  -- /n with a register; 64 bits
  rm_register : (ℕ → Option (Reg → Insn)) → Form
  -- the same with REX.W
  rm_register_w : (ℕ → Option (Reg → Insn)) → Form
  -- /0, an operand that isn't used
  rm_unused : Form
  -- an immediate that is pushed
  imm_quad : Size → Form
  -- RAX and id; L/Q
  rax_imm : Form
  -- AL and ib; Byte
  al_imm : Form
  -- a distance to the target
  relative : (ℕ → Insn) → Size → Form

-- a row: one opcode byte, or so many from a first one
pub data Row : Type 0 where
  row : ℕ → Form → Row
  rows : ℕ → ℕ → (ℕ → Form) → Row

-- the row of an opcode byte
abbrev pub lookup : ℕ → List Row → Option Form
lookup op [] = None
lookup op (row key form ∷ rest) = if op == key then Some form else lookup op rest
lookup op (rows first count form ∷ rest) =
    if nat_le first op && nat_lt op (first + count) then Some (form (op - first)) else lookup op rest

-- one value alone
abbrev pub only : {A : Type 0} → ℕ → A → ℕ → Option A
only n x k = if k == n then Some x else None

-- /0 Add, /1 Or, /4 And, /5 Sub, /6 Xor, /7 Cmp
abbrev pub alu_of : ℕ → Option AluOp
alu_of n =
    if n == 0 then Some alu.Add else
    if n == 1 then Some alu.Or else
    if n == 4 then Some alu.And else
    if n == 5 then Some alu.Sub else
    if n == 6 then Some alu.Xor else
    if n == 7 then Some alu.Cmp else None

abbrev pub alu_imm : ℕ → Option (Width → Place → Source → Insn)
alu_imm n = elim (alu_of n) [ None ↦ None | Some op ↦ Some (Alu op) ]

-- /4 Test, /5 Set, /6 Reset
abbrev pub bit_of : ℕ → Option BitOp
bit_of n =
    if n == 4 then Some bits.«Test» else
    if n == 5 then Some bits.Set else
    if n == 6 then Some bits.Reset else None

abbrev pub alu_rm_reg : AluOp → Form
alu_rm_reg op = rm_reg (λ w rm reg. Alu op w rm (source.Reg reg))

abbrev pub alu_reg_rm : AluOp → Form
alu_reg_rm op = reg_rm (λ w reg rm. Alu op w (place.Reg reg) (source_of rm))

-- SDM vol. 2, "One-Byte Opcode Map"
unfoldable pub one_byte : List Row
one_byte =
    -- 89 /r      MOV r/m, r
    row 0x89 (rm_reg (λ w rm reg. Mov w rm (source.Reg reg))) ∷
    -- 8B /r      MOV r, r/m
    row 0x8B (reg_rm (λ w reg rm. Mov w (place.Reg reg) (source_of rm))) ∷
    -- C7 /0 id   MOV r/m, imm32
    row 0xC7 (rm_imm (only 0 Mov) id) ∷
    -- B8+r id    MOV r32, imm32;  REX.W B8+r iq  MOV r64, imm64
    rows 0xB8 8 register_imm ∷
    -- 8D /r      LEA r, m
    row 0x8D address ∷
    -- 87 /r      XCHG r/m, r
    row 0x87 (rm_reg Xchg) ∷
    -- 50+r       PUSH r64
    rows 0x50 8 (opcode_register (λ r. Push (source.Reg r))) ∷
    -- 6A ib      PUSH imm8
    row 0x6A (imm_quad ib) ∷
    -- 68 id      PUSH imm32
    row 0x68 (imm_quad id) ∷
    -- FF /6      PUSH r/m64
    row 0xFF (rm_quad 6 (λ rm. Push (source_of rm))) ∷
    -- 58+r       POP r64
    rows 0x58 8 (opcode_register (λ r. Pop (place.Reg r))) ∷
    -- 8F /0      POP r/m64
    row 0x8F (rm_quad 0 Pop) ∷
    -- 9C         PUSHFQ
    row 0x9C (plain Pushfq) ∷
    -- 9D         POPFQ
    row 0x9D (plain Popfq) ∷
    -- 01 /r      ADD r/m, r
    row 0x01 (alu_rm_reg alu.Add) ∷
    -- 09 /r      OR r/m, r
    row 0x09 (alu_rm_reg alu.Or) ∷
    -- 21 /r      AND r/m, r
    row 0x21 (alu_rm_reg alu.And) ∷
    -- 29 /r      SUB r/m, r
    row 0x29 (alu_rm_reg alu.Sub) ∷
    -- 31 /r      XOR r/m, r
    row 0x31 (alu_rm_reg alu.Xor) ∷
    -- 39 /r      CMP r/m, r
    row 0x39 (alu_rm_reg alu.Cmp) ∷
    -- 03 /r      ADD r, r/m
    row 0x03 (alu_reg_rm alu.Add) ∷
    -- 0B /r      OR r, r/m
    row 0x0B (alu_reg_rm alu.Or) ∷
    -- 23 /r      AND r, r/m
    row 0x23 (alu_reg_rm alu.And) ∷
    -- 2B /r      SUB r, r/m
    row 0x2B (alu_reg_rm alu.Sub) ∷
    -- 33 /r      XOR r, r/m
    row 0x33 (alu_reg_rm alu.Xor) ∷
    -- 3B /r      CMP r, r/m
    row 0x3B (alu_reg_rm alu.Cmp) ∷
    -- 83 /n ib   ADD, OR, AND, SUB, XOR, CMP r/m, imm8
    row 0x83 (rm_imm alu_imm ib) ∷
    -- 81 /n id   ADD, OR, AND, SUB, XOR, CMP r/m, imm32
    row 0x81 (rm_imm alu_imm id) ∷
    -- 85 /r      TEST r/m, r
    row 0x85 (rm_reg (λ w rm reg. Test w rm (source.Reg reg))) ∷
    -- F7 /0 id   TEST r/m, imm32
    row 0xF7 (rm_imm (only 0 Test) id) ∷
    -- A9 id      TEST RAX, imm32
    row 0xA9 rax_imm ∷
    -- F6 /0 ib   TEST r/m8, imm8
    row 0xF6 rm_byte_imm ∷
    -- A8 ib      TEST AL, imm8
    row 0xA8 al_imm ∷
    -- 70+c cb    Jcc rel8
    rows 0x70 16 (λ c. relative (Jcc c) ib) ∷
    -- EB cb      JMP rel8
    row 0xEB (relative Jmp ib) ∷
    -- E9 cd      JMP rel32
    row 0xE9 (relative Jmp id) ∷
    -- E8 cd      CALL rel32
    row 0xE8 (relative Call id) ∷
    -- C3         RET
    row 0xC3 (plain Ret) ∷
    -- REX.W CF   IRETQ
    row 0xCF (plain_w Iretq) ∷
    -- FA         CLI
    row 0xFA (plain Cli) ∷
    -- FB         STI
    row 0xFB (plain Sti) ∷
    -- FC         CLD
    row 0xFC (plain Cld) ∷
    -- 90         NOP
    row 0x90 (plain Nop) ∷ []

-- SDM vol. 2, "Two-Byte Opcode Map", after 0F
unfoldable pub two_byte : List Row
two_byte =
    -- 0F BA /4, /5, /6 ib   BT, BTS, BTR r/m, imm8
    row 0xBA (rm_bit bit_of) ∷
    -- 0F 80+c cd            Jcc rel32
    rows 0x80 16 (λ c. relative (Jcc c) id) ∷
    -- 0F 01 F8  SWAPGS;  0F 01 CA  CLAC;  0F 01 CB  STAC
    row 0x01 (last_byte (λ b. if b == 0xF8 then Some Swapgs else if b == 0xCA then Some Clac else if b == 0xCB then
    Some Stac else None)) ∷
    -- REX.W 0F 07           SYSRETQ
    row 0x07 (plain_w Sysretq) ∷
    -- 0F 32                 RDMSR
    row 0x32 (plain Rdmsr) ∷
    -- 0F 30                 WRMSR
    row 0x30 (plain Wrmsr) ∷
    -- 0F 20 /3              MOV r64, CR3
    row 0x20 (rm_register (only 3 ReadCr3)) ∷
    -- 0F 22 /3              MOV CR3, r64
    row 0x22 (rm_register (only 3 WriteCr3)) ∷
    -- 0F AE E8              LFENCE
    row 0xAE (last_byte (only 0xE8 Lfence)) ∷
    -- 0F 0B                 UD2
    row 0x0B (plain Ud2) ∷
    -- 0F 1F /0              NOP r/m
    row 0x1F rm_unused ∷ []

-- after F3, a REX byte where there is one, and 0F
unfoldable pub two_byte_f3 : List Row
two_byte_f3 =
    -- F3 REX.W 0F AE /1  RDGSBASE r64;  /3  WRGSBASE r64
    row 0xAE (rm_register_w (λ n. if n == 1 then Some ReadGs else if n == 3 then Some WriteGs else None)) ∷
    -- F3 0F 1E FA        ENDBR64
    row 0x1E (last_byte (only 0xFA Endbr64)) ∷ []
