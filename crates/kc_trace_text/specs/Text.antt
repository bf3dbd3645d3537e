-- The text of a trace's lines: this project's own.
use Rattle.std.specs.Prelude.{codes, ℕ, false, List, [], ◌∷◌, ◌++◌, slice_index_or, decimal}
use Rattle.std.specs.Fmt.{digits}
use Rattle.hex.specs.Hex.{encode_lower}
use Rattle.kc_events.specs.declared.turn.Turn.{Turn}
use Rattle.kc_events.specs.declared.turn.Trace.{Trace}
use Rattle.kc_trace.specs.declared.assignment.Assignment.{Assignment}
use Rattle.kc_trace.specs.declared.assignment.Assignment.TheVariants.{SetRegister, SetRip, SetFlags, SetCs, SetGs, SetDueRip, SetDueFlags, SetDueRsp}
use Rattle.kc_trace.specs.declared.line.Line.{Line}
use Rattle.kc_trace.specs.declared.line.Line.TheVariants.{Start, Mem, Go, Irq, Nmi, Debug, Check, Fault, Trap, Syscall, User, Body, Leave}
use Rattle.kc_trace_text.specs.Lines.{lines_of_turn, lines_of_trace}

-- `0x` and lower-case hexadecimal digits without leading zeros
abbrev pub number_text : ℕ → List ℕ
number_text n = codes "0x" ++ digits 16 false n

-- the registers' 64-bit names by number
abbrev pub register_names : List (List ℕ)
register_names =
    codes "rax" ∷ codes "rcx" ∷ codes "rdx" ∷ codes "rbx" ∷ codes "rsp" ∷ codes "rbp" ∷ codes "rsi" ∷ codes "rdi"
    ∷ codes "r8" ∷ codes "r9" ∷ codes "r10" ∷ codes "r11" ∷ codes "r12" ∷ codes "r13" ∷ codes "r14" ∷ codes "r15" ∷ []

abbrev pub register_name : ℕ → List ℕ
register_name r = slice_index_or register_names r []

-- a blank, and `<name>=<number>`
abbrev pub assignment_text : List ℕ → ℕ → List ℕ
assignment_text name n = codes " " ++ name ++ codes "=" ++ number_text n

abbrev pub text_of_assignment : Assignment → List ℕ
text_of_assignment (SetRegister r n) = assignment_text (register_name r) n
text_of_assignment (SetRip n) = assignment_text (codes "rip") n
text_of_assignment (SetFlags n) = assignment_text (codes "rflags") n
text_of_assignment (SetCs n) = assignment_text (codes "cs") n
text_of_assignment (SetGs n) = assignment_text (codes "gs") n
text_of_assignment (SetDueRip n) = assignment_text (codes "due.rip") n
text_of_assignment (SetDueFlags n) = assignment_text (codes "due.rflags") n
text_of_assignment (SetDueRsp n) = assignment_text (codes "due.rsp") n

abbrev pub text_of_assignments : List Assignment → List ℕ
text_of_assignments [] = []
text_of_assignments (a ∷ more) = text_of_assignment a ++ text_of_assignments more

-- a line's text, without its end
abbrev pub text_of_line : Line → List ℕ
text_of_line (Start set) = codes "start" ++ text_of_assignments set
text_of_line (Mem a bs) = codes "mem " ++ number_text a ++ codes " " ++ encode_lower bs
text_of_line (Go n) = codes "go " ++ decimal n
text_of_line (Irq v) = codes "irq " ++ decimal v
text_of_line Nmi = codes "nmi"
text_of_line Debug = codes "debug"
text_of_line Check = codes "check"
text_of_line (Fault a code) = codes "fault " ++ number_text a ++ codes " " ++ number_text code
text_of_line (Trap v code) = codes "trap " ++ decimal v ++ codes " " ++ number_text code
text_of_line Syscall = codes "syscall"
text_of_line (User set) = codes "user" ++ text_of_assignments set
text_of_line (Body set) = codes "body" ++ text_of_assignments set
text_of_line (Leave set) = codes "leave" ++ text_of_assignments set

-- each line ends with 0A
abbrev pub text_of_lines : List Line → List ℕ
text_of_lines [] = []
text_of_lines (line ∷ lines) = text_of_line line ++ codes "\n" ++ text_of_lines lines

abbrev pub text_of_trace : Trace → List ℕ
text_of_trace trace = text_of_lines (lines_of_trace trace)

-- the text of a turn's first line
abbrev pub text_of_head : List Line → List ℕ
text_of_head [] = []
text_of_head (line ∷ lines) = text_of_line line

abbrev pub text_of_first : Turn → List ℕ
text_of_first turn = text_of_head (lines_of_turn turn)
