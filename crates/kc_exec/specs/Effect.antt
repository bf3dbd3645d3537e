-- What each instruction does, an equation an instruction, after the "Operation" box of its page in Intel SDM vol. 2,
-- whose name stands above it. Which instructions there are, and what is named as this project's own, is this project's
-- choice.
use Rattle.std.specs.Prelude.{ℕ, ◌+◌, ◌-◌, ◌*◌, ◌/◌, ◌%◌, ◌^◌, Bool, true, false, cond, not, ◌==◌, if◌then◌else◌, List, [], ◌∷◌, ◌++◌, Option, Some, None, bit_and, bit_or, bit_xor}
use Rattle.std.specs.Int.{w64, bit_at, bit_not}
use Rattle.kc_words.specs.declared.width.Width.{Width}
use Rattle.kc_words.specs.declared.width.Width.TheVariants.{Quad}
use Rattle.kc_words.specs.Flags.{bits_of, cut, difference, result_flags, sum_flags, difference_flags}
use Rattle.kc_insn.specs.declared.insn.AluOp.{AluOp}
use Rattle.kc_insn.specs.declared.insn.AluOp.TheVariants as alu
use Rattle.kc_insn.specs.declared.insn.BitOp.{BitOp}
use Rattle.kc_insn.specs.declared.insn.BitOp.TheVariants as bits
use Rattle.kc_insn.specs.declared.insn.Source.TheVariants as source
use Rattle.kc_insn.specs.declared.insn.Insn.{Insn}
use Rattle.kc_insn.specs.declared.insn.Insn.TheVariants.{Nop, Endbr64, Lfence, Ud2, Cld, Clac, Stac, Cli, Sti, Swapgs, Sysretq, Iretq, Rdmsr, Wrmsr, Pushfq, Popfq, Ret, ReadCr3, WriteCr3, ReadGs, WriteGs, Mov, Lea, Xchg, Push, Pop, Alu, Test, Bit, Jcc, Jmp, Call}
use Rattle.kc_insn.specs.Fields.{source_of}
use Rattle.kc_regions.specs.Lookup.{handler_of}
use Rattle.kc_regions.specs.Permission.{user_cs64, user_ss}
use Rattle.kc_cpu.specs.declared.cpu.Cpu.{Cpu}
use Rattle.kc_cpu.specs.declared.cpu.Mode.{Mode}
use Rattle.kc_cpu.specs.declared.cpu.Mode.TheVariants.{Inside}
use Rattle.kc_exec.specs.declared.access.Access.{Access}
use Rattle.kc_exec.specs.declared.executed.ExecEnd.TheVariants.{Returned}
use Rattle.kc_exec.specs.declared.executed.Executed.{Executed}
use Rattle.kc_exec.specs.Moment.{Moment}
use Rattle.kc_exec.specs.Register.{numbered, rax, rcx, rdx, rbx, rsp, rbp, r11, register, with_register}
use Rattle.kc_exec.specs.RFlags.{status, logic_status, if_mask, df_mask, ac_mask, loadable, sysret_mask, is_set, with_set, with_clear, replaced, loaded, holds}
use Rattle.kc_exec.specs.Operand.{plus, effective, operand, destination, plain_read, reads_of, with_result, write_of}
use Rattle.kc_exec.specs.Change.{goes, falls, operated, pushed_rsp, with_pushed_rsp, push_of, stack_word, stack_read, with_popped_rsp}

-- ---- arithmetic

-- the result at this width, none for CMP
abbrev pub alu_result : AluOp → Width → ℕ → ℕ → Option ℕ
alu_result alu.Add w x y = Some (cut w (x + y))
alu_result alu.Or w x y = Some (bit_or x y)
alu_result alu.And w x y = Some (bit_and x y)
alu_result alu.Sub w x y = Some (difference (bits_of w) x y)
alu_result alu.Xor w x y = Some (bit_xor x y)
alu_result alu.Cmp w x y = None

abbrev pub logic_flags_after : Width → ℕ → ℕ → ℕ
logic_flags_after w r flags = replaced logic_status (result_flags (bits_of w) r) flags

-- the flags afterwards: all six of a sum or a difference, five of the others
abbrev pub alu_flags : AluOp → Width → ℕ → ℕ → ℕ → ℕ
alu_flags alu.Add w x y flags = replaced status (sum_flags (bits_of w) x y) flags
alu_flags alu.Or w x y flags = logic_flags_after w (bit_or x y) flags
alu_flags alu.And w x y flags = logic_flags_after w (bit_and x y) flags
alu_flags alu.Sub w x y flags = replaced status (difference_flags (bits_of w) x y) flags
alu_flags alu.Xor w x y flags = logic_flags_after w (bit_xor x y) flags
alu_flags alu.Cmp w x y flags = replaced status (difference_flags (bits_of w) x y) flags

-- bit i set or reset, none for BT
abbrev pub bit_result : BitOp → ℕ → ℕ → Option ℕ
bit_result bits.«Test» i x = None
bit_result bits.Set i x = Some (bit_or x (2 ^ i))
bit_result bits.Reset i x = Some (bit_and x (bit_not w64 (2 ^ i)))

-- CF becomes the old bit
abbrev pub bit_flags : ℕ → ℕ → ℕ → ℕ
bit_flags i x flags = replaced 1 (bit_at x i) flags

-- ---- calls

-- RBX, RBP and R12 to R15
abbrev pub kept_registers : Cpu → List ℕ
kept_registers cpu =
    register cpu rbx ∷ register cpu rbp ∷ register cpu (numbered 12) ∷ register cpu (numbered 13)
    ∷ register cpu (numbered 14) ∷ register cpu (numbered 15) ∷ []

-- inside the handler that begins at the target, where there is one: this project's own
abbrev pub called_mode : Moment → Option ℕ → Mode
called_mode m None = m.cpu.mode
called_mode m (Some h) =
    Inside (record { handler = h; rsp = pushed_rsp m; back = m.next; flags = m.cpu.flags; kept = kept_registers m.cpu })

-- ---- model-specific registers: SDM vol. 4

-- IA32_GS_BASE, IA32_KERNEL_GS_BASE and IA32_MCG_STATUS
abbrev pub gs_base : ℕ
gs_base = 0xC0000101

abbrev pub kernel_gs_base : ℕ
kernel_gs_base = 0xC0000102

abbrev pub mcg_status : ℕ
mcg_status = 0x17A

-- the number in ECX
abbrev pub msr_number : Cpu → ℕ
msr_number cpu = register cpu rcx % 2 ^ 32

-- EDX:EAX
abbrev pub edx_eax : Cpu → ℕ
edx_eax cpu = register cpu rdx % 2 ^ 32 * 2 ^ 32 + register cpu rax % 2 ^ 32

-- what the register of this number holds; of IA32_MCG_STATUS only MCIP, bit 2, is modelled, and other numbers are
-- forbidden (B8)
abbrev pub msr : Moment → ℕ → ℕ
msr m number =
    if number == gs_base then m.cpu.gs else
    if number == kernel_gs_base then m.cpu.kgs else
    if number == mcg_status then cond m.latch.mcip 4 0 else 0

-- v is written to the register of this number; a write to IA32_MCG_STATUS clears MCIP
abbrev pub with_msr : Moment → ℕ → ℕ → Executed
with_msr m number v =
    if number == gs_base then falls m (record m.cpu { gs = v }) [] None else
    if number == kernel_gs_base then falls m (record m.cpu { kgs = v }) [] None else
    if number == mcg_status then falls (record m { latch = record m.latch { mcip = false } }) m.cpu [] None else
    falls m m.cpu [] None

-- CR4.PCIDE is on: bit 63 isn't stored. SDM vol. 3A, "Control Registers"
abbrev pub stored_cr3 : ℕ → ℕ
stored_cr3 v = v % 2 ^ 63

-- ---- returns

-- the read of the descriptor that a selector names
abbrev pub descriptor_read : Moment → ℕ → Access
descriptor_read m selector = plain_read (plus m.cfg.cpu.gdt (selector - selector % 8)) 8

-- a null selector names none
abbrev pub is_null : ℕ → Bool
is_null selector = selector - selector % 4 == 0

-- the five words at RSP, then the descriptors of CS and of an SS that isn't null: which, and in which order, is this
-- project's own
abbrev pub iret_reads : Moment → List Access
iret_reads m =
    stack_read m 0 ∷ stack_read m 1 ∷ stack_read m 2 ∷ stack_read m 3 ∷ stack_read m 4
    ∷ descriptor_read m (stack_word m 1 % 2 ^ 16)
    ∷ (if is_null (stack_word m 4 % 2 ^ 16) then [] else descriptor_read m (stack_word m 4 % 2 ^ 16) ∷ [])

-- ---- the table

-- what the instruction does where no break forbids it
unfoldable pub row : Moment → Insn → Executed
-- "NOP", "ENDBR64", "LFENCE": nothing that the model sees. "UD2" is forbidden (B8)
row m Nop = falls m m.cpu [] None
row m Endbr64 = falls m m.cpu [] None
row m Lfence = falls m m.cpu [] None
row m Ud2 = falls m m.cpu [] None
-- "MOV": DEST := SRC
row m (Mov w dest src) =
    let v = operand m w src in
    falls m (with_result dest v m.cpu) (reads_of m w src) (write_of m w dest v)
-- "LEA": DEST := EffectiveAddress(SRC), at the operand's width
row m (Lea w dest src) = falls m (with_register dest (cut w (effective m src)) m.cpu) [] None
-- "XCHG": TEMP := DEST; DEST := SRC; SRC := TEMP
row m (Xchg w dest src) =
    let temp = destination m w dest in
    let v = operand m w (source.Reg src) in
    falls m (with_register src temp (with_result dest v m.cpu)) (reads_of m w (source_of dest)) (write_of m w dest v)
-- "PUSH": TEMP := SRC; RSP := RSP - 8; Memory[SS:RSP] := TEMP
row m (Push src) = falls m (with_pushed_rsp m) (reads_of m Quad src) (push_of m (operand m Quad src))
-- "POP": DEST := SS:RSP; RSP := RSP + 8. An address that uses RSP takes it after the increment, and POP RSP leaves the
-- word
row m (Pop dest) =
    let v = stack_word m 0 in
    let after = record m { cpu = with_popped_rsp m } in
    falls m (with_result dest v after.cpu) (stack_read m 0 ∷ []) (write_of after Quad dest v)
-- "PUSHF/PUSHFD/PUSHFQ": push (RFLAGS)
row m Pushfq = falls m (with_pushed_rsp m) [] (push_of m m.cpu.flags)
-- "POPF/POPFD/POPFQ": RFLAGS := Pop(), of the flags that are modelled
row m Popfq =
    falls m (record (with_popped_rsp m) { flags = loaded loadable (stack_word m 0) }) (stack_read m 0 ∷ []) None
-- "ADD", "OR", "AND", "SUB", "XOR": DEST := DEST op SRC. "CMP": temp := DEST - SRC
row m (Alu op w dest src) =
    let x = destination m w dest in
    let y = operand m w src in
    operated m w dest (reads_of m w (source_of dest) ++ reads_of m w src) (alu_flags op w x y m.cpu.flags)
    (alu_result op w x y)
-- "TEST": TEMP := DEST AND SRC
row m (Test w dest src) =
    let r = bit_and (destination m w dest) (operand m w src) in
    operated m w dest (reads_of m w (source_of dest) ++ reads_of m w src) (logic_flags_after w r m.cpu.flags) None
-- "BT", "BTS", "BTR": CF := Bit(DEST, number modulo the width); Bit(DEST, ..) := 1 or 0
row m (Bit op w dest number) =
    let x = destination m w dest in
    let i = number % bits_of w in
    operated m w dest (reads_of m w (source_of dest)) (bit_flags i x m.cpu.flags) (bit_result op i x)
-- "Jcc": IF condition THEN RIP := DEST
row m (Jcc code target) = goes m (if holds code m.cpu.flags then target else m.next) m.cpu [] None
-- "JMP", near: RIP := DEST
row m (Jmp target) = goes m target m.cpu [] None
-- "CALL", near relative: Push(RIP); RIP := DEST
row m (Call target) =
    goes m target (record (with_pushed_rsp m) { mode = called_mode m (handler_of m.cfg.handlers target) }) []
    (push_of m m.next)
-- "RET", near: RIP := Pop()
row m Ret = goes m (stack_word m 0) (with_popped_rsp m) (stack_read m 0 ∷ []) None
-- "CLI": IF := 0. "CLD": DF := 0. "CLAC": AC := 0. "STAC": AC := 1
row m Cli = falls m (record m.cpu { flags = with_clear m.cpu.flags if_mask }) [] None
row m Cld = falls m (record m.cpu { flags = with_clear m.cpu.flags df_mask }) [] None
row m Clac = falls m (record m.cpu { flags = with_clear m.cpu.flags ac_mask }) [] None
row m Stac = falls m (record m.cpu { flags = with_set m.cpu.flags ac_mask }) [] None
-- "STI": IF := 1. Where IF was 0, no maskable interrupt comes before the instruction after the next one begins
row m Sti = record (falls m (record m.cpu { flags = with_set m.cpu.flags if_mask }) [] None) {
  latch = record m.latch { shadow = not (is_set m.cpu.flags 9) };
}
-- "SWAPGS": tmp := GS.base; GS.base := IA32_KERNEL_GS_BASE; IA32_KERNEL_GS_BASE := tmp
row m Swapgs = falls m (record m.cpu { gs = m.cpu.kgs; kgs = m.cpu.gs }) [] None
-- "RDFSBASE/RDGSBASE": DEST := GS.base. "WRFSBASE/WRGSBASE": GS.base := SRC
row m (ReadGs r) = falls m (with_register r m.cpu.gs m.cpu) [] None
row m (WriteGs r) = falls m (record m.cpu { gs = register m.cpu r }) [] None
-- "RDMSR": EDX:EAX := MSR[ECX], the upper halves of RDX and RAX cleared
row m Rdmsr =
    let v = msr m (msr_number m.cpu) in
    falls m (with_register rax (v % 2 ^ 32) (with_register rdx (v / 2 ^ 32) m.cpu)) [] None
-- "WRMSR": MSR[ECX] := EDX:EAX
row m Wrmsr = with_msr m (msr_number m.cpu) (edx_eax m.cpu)
-- "MOV - Move to/from Control Registers": DEST := SRC
row m (ReadCr3 r) = falls m (with_register r m.cpu.cr3 m.cpu) [] None
row m (WriteCr3 r) = falls m (record m.cpu { cr3 = stored_cr3 (register m.cpu r) }) [] None
-- "SYSRET", 64-bit: RIP := RCX; RFLAGS := (R11 & 3C7FD7H) | 2; CS and SS from IA32_STAR
row m Sysretq = record (goes m (register m.cpu rcx) (record m.cpu {
  flags = loaded sysret_mask (register m.cpu r11);
  cs = user_cs64 m.cfg.cpu;
  ss = user_ss m.cfg.cpu;
}) [] None) { end = Returned }
-- "IRET/IRETD/IRETQ", 64-bit: RIP, CS, RFLAGS, RSP and SS := Pop(); NMIs are no longer blocked
row m Iretq = record {
  cpu = record (with_register rsp (stack_word m 3) m.cpu) {
    rip = stack_word m 0;
    flags = loaded loadable (stack_word m 2);
    cs = stack_word m 1 % 2 ^ 16;
    ss = stack_word m 4 % 2 ^ 16;
  };
  latch = record m.latch { nmi_blocked = false; shadow = false };
  reads = iret_reads m;
  write = None;
  end = Returned;
}
