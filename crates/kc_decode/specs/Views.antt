-- What the decoder's own types stand for in the grammar's terms.
use Rattle.std.specs.Prelude.{ℕ, ◌<◌, ◌==◌, if◌then◌else◌, Option, Some, None}
use Rattle.kc_words.specs.declared.width.Width.{Width}
use Rattle.kc_insn.specs.declared.insn.Insn.{Insn}
use Rattle.kc_insn.specs.declared.insn.Insn.TheVariants as insn
use Rattle.kc_insn.specs.declared.insn.Reg.{Reg}
use Rattle.kc_insn.specs.declared.insn.Place.{Place}
use Rattle.kc_insn.specs.declared.insn.Place.TheVariants as place
use Rattle.kc_insn.specs.declared.insn.Source.{Source}
use Rattle.kc_insn.specs.declared.insn.Source.TheVariants as source
use Rattle.kc_insn.specs.Fields.{source_of}
use Rattle.kc_insn.specs.Fields as fields
use Rattle.kc_insn.specs.Table.{alu_imm, bit_of, only, alu_reg_rm}
use Rattle.kc_insn.specs.Table as table
use Rattle.kc_insn.specs.Spells as spells
use Rattle.kc_decode.specs.declared.draft.Draft.{Draft}
use Rattle.kc_decode.specs.declared.draft.Draft.TheVariants as draft
use Rattle.kc_decode.specs.declared.operand.Disp.{Disp}
use Rattle.kc_decode.specs.declared.operand.Disp.TheVariants as disp
use Rattle.kc_decode.specs.declared.form.Size.{Size}
use Rattle.kc_decode.specs.declared.form.Size.TheVariants.{One, Four}
use Rattle.kc_decode.specs.declared.form.Pair.{Pair}
use Rattle.kc_decode.specs.declared.form.Pair.TheVariants as pair
use Rattle.kc_decode.specs.declared.form.Group.{Group}
use Rattle.kc_decode.specs.declared.operand.ImmOp.{ImmOp}
use Rattle.kc_decode.specs.declared.operand.ImmOp.TheVariants as imm_op
use Rattle.kc_decode.specs.declared.form.Group.TheVariants as group
use Rattle.kc_decode.specs.declared.form.Last.{Last}
use Rattle.kc_decode.specs.declared.form.Last.TheVariants as last
use Rattle.kc_decode.specs.declared.form.Jump.{Jump}
use Rattle.kc_decode.specs.declared.form.Jump.TheVariants as jump
use Rattle.kc_decode.specs.declared.form.Form.{Form}
use Rattle.kc_decode.specs.declared.form.Form.TheVariants as form

abbrev pub size_of : Size → fields.Size
size_of One = fields.ib
size_of Four = fields.id

abbrev pub imm_op_of : ImmOp → Width → Place → Source → Insn
imm_op_of imm_op.Mov = insn.Mov
imm_op_of imm_op.«Test» = insn.«Test»
imm_op_of (imm_op.Alu op) = insn.Alu op

abbrev pub group_of : Group → ℕ → Option (Width → Place → Source → Insn)
group_of group.Mov = only 0 insn.Mov
group_of group.«Test» = only 0 insn.«Test»
group_of group.Alu = alu_imm

abbrev pub last_of : Last → ℕ → Option Insn
last_of last.System =
    λ b. if b == 0xF8 then Some insn.Swapgs else if b == 0xCA then Some insn.Clac else if b == 0xCB then Some insn.Stac
    else None
last_of last.Lfence = only 0xE8 insn.Lfence
last_of last.Endbr64 = only 0xFA insn.Endbr64

abbrev pub jump_of : Jump → ℕ → Insn
jump_of (jump.«If» c) = insn.Jcc c
jump_of jump.Always = insn.Jmp
jump_of jump.Call = insn.Call

abbrev pub pair_of : Pair → Width → Place → Reg → Insn
pair_of pair.Mov = λ w rm reg. insn.Mov w rm (source.Reg reg)
pair_of pair.Xchg = insn.Xchg
pair_of pair.«Test» = λ w rm reg. insn.«Test» w rm (source.Reg reg)
pair_of (pair.Alu op) = λ w rm reg. insn.Alu op w rm (source.Reg reg)

abbrev pub form_of : Form → table.Form
form_of (form.Plain i) = table.plain i
form_of (form.PlainW i) = table.plain_w i
form_of (form.LastByte l) = table.last_byte (last_of l)
form_of (form.PushRegister r) = table.opcode_register (λ reg. insn.Push (source.Reg reg)) r
form_of (form.PopRegister r) = table.opcode_register (λ reg. insn.Pop (place.Reg reg)) r
form_of (form.RegisterImm r) = table.register_imm r
form_of (form.RmReg p) = table.rm_reg (pair_of p)
form_of form.MovLoad = table.reg_rm (λ w reg rm. insn.Mov w (place.Reg reg) (source_of rm))
form_of (form.AluLoad op) = alu_reg_rm op
form_of form.Lea = table.address
form_of (form.RmImm g size) = table.rm_imm (group_of g) (size_of size)
form_of form.TestByte = table.rm_byte_imm
form_of form.Bit = table.rm_bit bit_of
form_of form.PushRm = table.rm_quad 6 (λ rm. insn.Push (source_of rm))
form_of form.PopRm = table.rm_quad 0 insn.Pop
form_of form.ReadCr3 = table.rm_register (only 3 insn.ReadCr3)
form_of form.WriteCr3 = table.rm_register (only 3 insn.WriteCr3)
form_of form.GsBase =
    table.rm_register_w (λ n. if n == 1 then Some insn.ReadGs else if n == 3 then Some insn.WriteGs else None)
form_of form.Nop = table.rm_unused
form_of (form.PushImm size) = table.imm_quad (size_of size)
form_of form.TestRax = table.rax_imm
form_of form.TestAl = table.al_imm
form_of (form.Relative j size) = table.relative (jump_of j) (size_of size)

-- the register numbers in the opcode have three bits
abbrev pub IsInRange : Form → Type 0
IsInRange (form.PushRegister r) = r < 8
IsInRange (form.PopRegister r) = r < 8
IsInRange (form.RegisterImm r) = r < 8
IsInRange f = Unit {0}

abbrev pub draft_of : Draft → spells.Draft
draft_of (draft.Whole i) = spells.whole i
draft_of (draft.Jump j z) = spells.jump (jump_of j) z

abbrev pub disp_of : Disp → ℕ
disp_of disp.Absent = 0
disp_of disp.One = 1
disp_of disp.Four = 4
