-- The samples' listings, this project's own. A label is an address and stands as an `At`. The entries are those of a
-- kernel that has one address space for itself and one for the user (`cr3` without and with bit 12), and whose per-CPU
-- data lies at the kernel's GS base.
use Rattle.std.specs.Prelude.{ℕ, List, [], ◌∷◌, ◌++◌, drop, None, ℤ, pos, negsuc, true, false}
use Rattle.kc_words.specs.declared.width.Width.TheVariants.{Byte, Long, Quad}
use Rattle.kc_insn.specs.declared.insn.Reg.{Reg}
use Rattle.kc_insn.specs.declared.insn.Base.TheVariants as base
use Rattle.kc_insn.specs.declared.insn.Mem.{Mem}
use Rattle.kc_insn.specs.declared.insn.Place.TheVariants as place
use Rattle.kc_insn.specs.declared.insn.Source.TheVariants as source
use Rattle.kc_insn.specs.declared.insn.AluOp.TheVariants as alu
use Rattle.kc_insn.specs.declared.insn.Insn.TheVariants.{Swapgs, Sysretq, Iretq, Rdmsr, ReadCr3, WriteCr3, Mov, Push, Pop, Alu, Test, Jcc, Call}
use Rattle.kc_gen.specs.declared.line.Line.{Line}
use Rattle.kc_gen.specs.declared.line.Line.TheVariants.{At, Code}
use Rattle.kc_gen.specs.declared.kind.Sample.{Sample}
use Rattle.kc_gen.specs.declared.kind.Sample.TheVariants.{S0, S1, S2}
use Rattle.kc_gen.specs.Image.{header, image_of}
use Rattle.kc_gen.specs.Texts as text

-- ---- operands

abbrev pub r : ℕ → Reg
r n = record { 0 = n }

abbrev pub rax : Reg
rax = r 0

abbrev pub rcx : Reg
rcx = r 1

abbrev pub rdx : Reg
rdx = r 2

abbrev pub rbx : Reg
rbx = r 3

abbrev pub rsp : Reg
rsp = r 4

abbrev pub r11 : Reg
r11 = r 11

abbrev pub r14 : Reg
r14 = r 14

-- [reg+disp]
abbrev pub from : Reg → ℕ → Mem
from reg disp = record { gs = false; base = base.Reg reg; index = None; disp = pos disp }

-- gs:[disp]
abbrev pub per_cpu : ℕ → Mem
per_cpu disp = record { gs = true; base = base.Absent; index = None; disp = pos disp }

-- ---- instructions

abbrev pub swapgs : Line
swapgs = Code Swapgs

abbrev pub sysretq : Line
sysretq = Code Sysretq

abbrev pub iretq : Line
iretq = Code Iretq

abbrev pub rdmsr : Line
rdmsr = Code Rdmsr

abbrev pub push : Reg → Line
push reg = Code (Push (source.Reg reg))

abbrev pub push_number : ℕ → Line
push_number n = Code (Push (source.Imm (pos n)))

abbrev pub push_from : Mem → Line
push_from m = Code (Push (source.Mem m))

abbrev pub pop : Reg → Line
pop reg = Code (Pop (place.Reg reg))

abbrev pub copy : Reg → Reg → Line
copy to reg = Code (Mov Quad (place.Reg to) (source.Reg reg))

abbrev pub load : Reg → Mem → Line
load to m = Code (Mov Quad (place.Reg to) (source.Mem m))

abbrev pub store : Mem → Reg → Line
store m reg = Code (Mov Quad (place.Mem m) (source.Reg reg))

abbrev pub put : Reg → ℤ → Line
put to n = Code (Mov Quad (place.Reg to) (source.Imm n))

abbrev pub put_long : Reg → ℕ → Line
put_long to n = Code (Mov Long (place.Reg to) (source.Imm (pos n)))

abbrev pub read_cr3 : Reg → Line
read_cr3 to = Code (ReadCr3 to)

abbrev pub write_cr3 : Reg → Line
write_cr3 reg = Code (WriteCr3 reg)

-- `add`, `and`, `or` and `cmp` of a register and a number
abbrev pub add : Reg → ℤ → Line
add reg n = Code (Alu alu.Add Quad (place.Reg reg) (source.Imm n))

abbrev pub and : Reg → ℤ → Line
and reg n = Code (Alu alu.And Quad (place.Reg reg) (source.Imm n))

abbrev pub or : Reg → ℤ → Line
or reg n = Code (Alu alu.Or Quad (place.Reg reg) (source.Imm n))

abbrev pub cmp : Reg → ℤ → Line
cmp reg n = Code (Alu alu.Cmp Quad (place.Reg reg) (source.Imm n))

-- `test byte m, 0x3`: whether a selector is the user's
abbrev pub test_user : Mem → Line
test_user m = Code (Test Byte (place.Mem m) (source.Imm (pos 3)))

-- `test reg, reg` of 32 bits
abbrev pub test_long : Reg → Line
test_long reg = Code (Test Long (place.Reg reg) (source.Reg reg))

abbrev pub jz : ℕ → Line
jz target = Code (Jcc 4 target)

abbrev pub jnz : ℕ → Line
jnz target = Code (Jcc 5 target)

abbrev pub js : ℕ → Line
js target = Code (Jcc 8 target)

abbrev pub call : ℕ → Line
call target = Code (Call target)

-- ---- parts of entries

abbrev pub save : List Line
save = push rax ∷ push rcx ∷ push rdx ∷ push rbx ∷ push (r 5) ∷ push (r 6) ∷ push (r 7) ∷ push (r 8) ∷ push
    (r 9) ∷ push (r 10) ∷ push r11
    ∷ push (r 12) ∷ push (r 13) ∷ push r14 ∷ push (r 15) ∷ []

abbrev pub restore : List Line
restore = pop (r 15) ∷ pop r14 ∷ pop (r 13) ∷ pop (r 12) ∷ pop r11 ∷ pop (r 10) ∷ pop (r 9) ∷ pop (r 8) ∷ pop
    (r 7) ∷ pop (r 6) ∷ pop (r 5)
    ∷ pop rbx ∷ pop rdx ∷ pop rcx ∷ pop rax ∷ []

-- all bits but bit 12: -0x1001
abbrev pub kernel_cr3 : List Line
kernel_cr3 = read_cr3 rax ∷ and rax (negsuc 0x1000) ∷ write_cr3 rax ∷ []

abbrev pub user_cr3 : List Line
user_cr3 = read_cr3 rax ∷ or rax (pos 0x1000) ∷ write_cr3 rax ∷ []

-- ---- entries

-- a frame as an interrupt's on the kernel's stack
abbrev pub syscall_frame : List Line
syscall_frame =
    At 0xffffffff81000000 ∷ swapgs ∷ store (per_cpu 0x800) rsp ∷ read_cr3 rsp ∷ and rsp (negsuc 0x1000) ∷ write_cr3
    rsp ∷ load rsp (per_cpu 0x808)
    ∷ push_number 0x2b ∷ push_from (per_cpu 0x800) ∷ push r11 ∷ push_number 0x33 ∷ push rcx ∷ []

-- the handler, and the way back to the user
abbrev pub syscall_handler : List Line
syscall_handler =
    call 0xffffffff81800000
    ∷ pop rcx ∷ pop rdx ∷ pop r11 ∷ read_cr3 rdx ∷ or rdx (pos 0x1000) ∷ pop rsp ∷ write_cr3 rdx ∷ put_long rdx
    0 ∷ swapgs ∷ sysretq ∷ []

-- an entry with a frame, whose CS lies in `cs`; `kernel` is the label of the part for an interrupted kernel, and `skip`
-- takes the error code away
abbrev pub frame_entry : ℕ → Mem → ℕ → ℕ → List Line → List Line
frame_entry at cs kernel handler skip =
    At at ∷ test_user cs ∷ jz kernel ∷ swapgs ∷ save ++ kernel_cr3 ++ call
    handler ∷ user_cr3 ++ restore ++ skip ++ swapgs ∷ iretq
    ∷ At kernel ∷ save ++ call handler ∷ restore ++ skip ++ iretq ∷ []

-- the GS base and CR3 of an entry that may interrupt any code: EBX says whether the kernel's GS base was put in place,
-- R14
-- keeps CR3
abbrev pub paranoid : ℕ → ℕ → ℕ → List Line
paranoid has_gs keep_gs handler =
    put_long rcx 0xc0000101 ∷ rdmsr ∷ put_long rbx 0 ∷ test_long rdx ∷ js has_gs ∷ swapgs ∷ put_long rbx 1
    ∷ At has_gs ∷ read_cr3 r14 ∷ copy rax r14 ∷ and rax (negsuc 0x1000) ∷ write_cr3 rax ∷ call handler ∷ write_cr3
    r14 ∷ test_long rbx ∷ jz keep_gs ∷ swapgs
    ∷ At keep_gs ∷ restore ++ iretq ∷ []

abbrev pub interrupt_entry : List Line
interrupt_entry = frame_entry 0xffffffff81000100 (from rsp 8) 0xffffffff81000160 0xffffffff81800010 []

abbrev pub page_fault_entry : List Line
page_fault_entry = frame_entry 0xffffffff81000200 (from rsp 16) 0xffffffff81000264 0xffffffff81800020
    (add rsp (pos 8) ∷ [])

abbrev pub debug_entry : List Line
debug_entry = At 0xffffffff81001000 ∷ save ++ paranoid 0xffffffff81001033 0xffffffff81001058 0xffffffff81800030

abbrev pub nmi_entry : List Line
nmi_entry = At 0xffffffff81001100 ∷ save ++ paranoid 0xffffffff81001133 0xffffffff81001158 0xffffffff81800040

abbrev pub machine_check_entry : List Line
machine_check_entry =
    At 0xffffffff81001200 ∷ test_user (from rsp 8) ∷ jz 0xffffffff81001260 ∷ swapgs ∷ save ++ kernel_cr3 ++ call
    0xffffffff81800050
    ∷ user_cr3 ++ restore ++ swapgs ∷ iretq
    ∷ At 0xffffffff81001260 ∷ put_long rcx 0xc0000101 ∷ rdmsr ∷ test_long rdx ∷ js 0xffffffff81001272 ∷ swapgs
    ∷ At 0xffffffff81001272 ∷ kernel_cr3 ++ call 0xffffffff81800060 ∷ []

-- an NMI entry that moves its frame to a stack of its own, or returns at once where the NMI met that stack
-- (0xffffffff84009000) or the machine check's (0xffffffff84007000) in the saved RSP
abbrev pub moving_nmi_entry : List Line
moving_nmi_entry =
    At 0xffffffff81001100 ∷ push rax ∷ test_user (from rsp 0x10) ∷ jnz 0xffffffff81001135
    ∷ load rax (from rsp 0x20) ∷ and rax (negsuc 0xfff) ∷ cmp rax (negsuc 0x7bff6fff) ∷ jz 0xffffffff81001132
    ∷ cmp rax (negsuc 0x7bff8fff) ∷ jnz 0xffffffff81001135
    ∷ At 0xffffffff81001132 ∷ pop rax ∷ iretq
    ∷ At 0xffffffff81001135 ∷ copy rax rsp ∷ put rsp (negsuc 0x7bff5fff)
    ∷ push_from (from rax 0x28) ∷ push_from (from rax 0x20) ∷ push_from (from rax 0x18) ∷ push_from
    (from rax 0x10) ∷ push_from (from rax 8)
    ∷ push_from (from rax 0) ∷ drop 1 save ++ paranoid 0xffffffff81001182 0xffffffff810011a7 0xffffffff81800040

-- ---- the samples

abbrev pub load_address : ℕ
load_address = 0xffffffff81000000

-- the entries of S1 but for the SYSCALL routine
abbrev pub s1_events : List Line
s1_events = interrupt_entry ++ page_fault_entry ++ debug_entry ++ nmi_entry ++ machine_check_entry

abbrev pub s1_lines : List Line
s1_lines = syscall_frame ++ syscall_handler ++ s1_events

abbrev pub s2_lines : List Line
s2_lines = syscall_frame ++ syscall_handler ++ interrupt_entry ++ page_fault_entry ++ debug_entry ++
    moving_nmi_entry ++ machine_check_entry

-- S0 is a jump to itself, EB FE
unfoldable pub sample_image : Sample → List ℕ
sample_image S0 = header load_address ++ 0xEB ∷ 0xFE ∷ []
sample_image S1 = image_of load_address s1_lines
sample_image S2 = image_of load_address s2_lines

unfoldable pub sample_config : Sample → List ℕ
sample_config S0 =
    text.head ++ text.quiet_entry ++ text.quiet_region ++ text.stacks ++ text.user ++ text.one_entry_gates ++ text.cpu
sample_config S1 =
    text.head ++ text.entry ++ text.quiet_region ++ text.stacks ++ text.user ++ text.gates ++ text.handlers ++
    text.nmi_handler ++ text.other_handlers ++ text.cpu
sample_config S2 =
    text.head ++ text.quiet_entry ++ text.quiet_region ++ text.stacks ++ text.work_stack ++ text.user ++ text.gates ++
    text.handlers ++ text.faulting_nmi_handler ++ text.other_handlers ++ text.cpu
