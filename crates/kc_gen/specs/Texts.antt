-- The texts of the samples' configurations, in pieces: this project's own.
use Rattle.std.specs.Prelude.{ℕ, List, ◌++◌, codes}

-- the version, and the head of the regions
abbrev pub head : List ℕ
head =
    codes "version = 1\n" ++
    codes "region = [\n"

-- the text of the entries from SYSCALL, interrupts and page faults
abbrev pub entry : List ℕ
entry =
    codes " {name=\"entry\", at=\"0xffffffff81000000\", size=\"0x1000\", kind=\"text\", exec=true, user_map=true},\n"

-- the same, where no debug trap comes
abbrev pub quiet_entry : List ℕ
quiet_entry =
    codes " {name=\"entry\", at=\"0xffffffff81000000\", size=\"0x1000\", kind=\"text\", exec=true, user_map=true, quiet=true},\n"

-- the text of the entries with stacks of their own
abbrev pub quiet_region : List ℕ
quiet_region =
    codes " {name=\"quiet\", at=\"0xffffffff81001000\", size=\"0x1000\", kind=\"text\", exec=true, user_map=true, quiet=true},\n"

-- the text of the generated instructions
abbrev pub generated_region : List ℕ
generated_region =
    codes " {name=\"gen\", at=\"0xffffffff81100000\", size=\"0x10000\", kind=\"text\", exec=true},\n"

-- the area, and the stacks with their guards
abbrev pub stacks : List ℕ
stacks =
    codes " {name=\"area\", at=\"0xffffffff82000000\", size=\"0x3000\", kind=\"area\", write=true, user_map=true},\n" ++
    codes " {name=\"kg\", at=\"0xffffffff83001000\", size=\"0x1000\", kind=\"guard\"},\n" ++
    codes " {name=\"k\", at=\"0xffffffff83002000\", size=\"0x4000\", kind=\"stack\", write=true, marked=true},\n" ++
    codes " {name=\"tg\", at=\"0xffffffff84000000\", size=\"0x1000\", kind=\"guard\"},\n" ++
    codes " {name=\"t\", at=\"0xffffffff84001000\", size=\"0x1000\", kind=\"stack\", write=true, user_map=true},\n" ++
    codes " {name=\"dg\", at=\"0xffffffff84002000\", size=\"0x1000\", kind=\"guard\"},\n" ++
    codes " {name=\"d\", at=\"0xffffffff84003000\", size=\"0x1000\", kind=\"stack\", write=true, user_map=true},\n" ++
    codes " {name=\"ng\", at=\"0xffffffff84004000\", size=\"0x1000\", kind=\"guard\"},\n" ++
    codes " {name=\"n\", at=\"0xffffffff84005000\", size=\"0x1000\", kind=\"stack\", write=true, user_map=true},\n" ++
    codes " {name=\"mg\", at=\"0xffffffff84006000\", size=\"0x1000\", kind=\"guard\"},\n" ++
    codes " {name=\"m\", at=\"0xffffffff84007000\", size=\"0x1000\", kind=\"stack\", write=true, user_map=true},\n"

-- the stack to which the NMI entry moves its frame
abbrev pub work_stack : List ℕ
work_stack =
    codes " {name=\"wg\", at=\"0xffffffff84008000\", size=\"0x1000\", kind=\"guard\"},\n" ++
    codes " {name=\"w\", at=\"0xffffffff84009000\", size=\"0x1000\", kind=\"stack\", write=true, user_map=true, marked=true},\n"

-- the user's memory
abbrev pub user : List ℕ
user =
    codes " {name=\"user\", at=\"0x10000\", size=\"0x7ffffffe0000\", kind=\"user\", write=true, user_map=true},\n" ++
    codes "]\n"

-- an entry for each vector
abbrev pub gates : List ℕ
gates =
    codes "gate = [\n" ++
    codes " {vector=1, entry=\"0xffffffff81001000\", ist=1},\n" ++
    codes " {vector=2, entry=\"0xffffffff81001100\", ist=2},\n" ++
    codes " {vector=14, entry=\"0xffffffff81000200\"},\n" ++
    codes " {vector=18, entry=\"0xffffffff81001200\", ist=3},\n" ++
    codes " {vector=32, entry=\"0xffffffff81000100\"},\n" ++
    codes "]\n"

-- the same entry for every vector
abbrev pub one_entry_gates : List ℕ
one_entry_gates =
    codes "gate = [\n" ++
    codes " {vector=1, entry=\"0xffffffff81000000\", ist=1},\n" ++
    codes " {vector=2, entry=\"0xffffffff81000000\", ist=2},\n" ++
    codes " {vector=14, entry=\"0xffffffff81000000\"},\n" ++
    codes " {vector=18, entry=\"0xffffffff81000000\", ist=3},\n" ++
    codes "]\n"

-- the handlers of interrupts, page faults and debug traps
abbrev pub handlers : List ℕ
handlers =
    codes "handler = [\n" ++
    codes " {entry=\"0xffffffff81800000\", stack=2048, events=[\"irq\",\"fault\"], after_if=\"off\", returns=true},\n" ++
    codes " {entry=\"0xffffffff81800010\", stack=2048, events=[], after_if=\"off\", returns=true},\n" ++
    codes " {entry=\"0xffffffff81800020\", stack=2048, events=[], after_if=\"off\", returns=true},\n" ++
    codes " {entry=\"0xffffffff81800030\", stack=2048, events=[], after_if=\"off\", returns=true},\n"

-- the NMI's handler
abbrev pub nmi_handler : List ℕ
nmi_handler =
    codes " {entry=\"0xffffffff81800040\", stack=2048, events=[], after_if=\"off\", returns=true},\n"

-- the NMI's handler, which may fault
abbrev pub faulting_nmi_handler : List ℕ
faulting_nmi_handler =
    codes " {entry=\"0xffffffff81800040\", stack=2048, events=[\"fault\"], after_if=\"off\", returns=true},\n"

-- the handlers of machine checks, and the words of the area
abbrev pub other_handlers : List ℕ
other_handlers =
    codes " {entry=\"0xffffffff81800050\", stack=2048, events=[], after_if=\"off\", returns=true},\n" ++
    codes " {entry=\"0xffffffff81800060\", stack=2048, events=[], after_if=\"off\", returns=false},\n" ++
    codes "]\n" ++
    codes "word = [{at=\"0xffffffff82002800\", value=\"0x0\"}, {at=\"0xffffffff82002808\", value=\"0xffffffff83006000\"}]\n"

-- the processor
abbrev pub cpu : List ℕ
cpu =
    codes "[cpu]\n" ++
    codes "kernel_gs = \"0xffffffff82002000\"\n" ++
    codes "kernel_cr3 = \"0x1000000\"\n" ++
    codes "user_cr3 = \"0x1001000\"\n" ++
    codes "idt = \"0xffffffff82000000\"\n" ++
    codes "gdt = \"0xffffffff82001000\"\n" ++
    codes "tss = \"0xffffffff82002000\"\n" ++
    codes "syscall = \"0xffffffff81000000\"\n" ++
    codes "fmask = \"0x47700\"\n" ++
    codes "star_kernel = 16\n" ++
    codes "star_user = 35\n" ++
    codes "user_cs32 = 35\n" ++
    codes "user_gs_writes = false\n" ++
    codes "rsp0 = \"0xffffffff84002000\"\n" ++
    codes "ist = [\"0xffffffff84004000\",\"0xffffffff84006000\",\"0xffffffff84008000\",\"0x0\",\"0x0\",\"0x0\",\"0x0\"]\n"
