-- Assignments `<name>=<number>`: this project's own.
use Rattle.std.specs.Prelude.{codes, ℕ, ◌==◌, Bool, true, false, not, ◌&&◌, ◌||◌, nat_le, nat_lt, List, [], ◌∷◌, ◌++◌, Option, Some, None, is_some, ok_or, Result, Ok, if◌then◌else◌}
use Rattle.std.specs.List.{list_any, before_first, after_first, position}
use Rattle.std.specs.Option.{option_and_then}
use Rattle.std.specs.Str.{bytes_eq}
use Rattle.kc_rules.specs.Rules.{refuse, over, ◌>>=◌}
use Rattle.kc_trace.specs.declared.assignment.Name.{Name}
use Rattle.kc_trace.specs.declared.assignment.Name.TheVariants.{Register, Rip, Flags, Cs, Gs, DueRip, DueFlags, DueRsp}
use Rattle.kc_trace.specs.declared.assignment.Assignment.{Assignment}
use Rattle.kc_trace.specs.declared.assignment.Assignment.TheVariants.{SetRegister, SetRip, SetFlags, SetCs, SetGs, SetDueRip, SetDueFlags, SetDueRsp}
use Rattle.kc_trace.specs.declared.assignment.Setter.{Setter}
use Rattle.kc_trace.specs.declared.assignment.Setter.TheVariants.{ByUser, ByBody, ByLeave}
use Rattle.kc_trace.specs.declared.fault.LineFault.{LineFault}
use Rattle.kc_trace.specs.declared.fault.LineFault.TheVariants.{Form, Number}
use Rattle.kc_trace.specs.Numbers.{number}

abbrev pub is_equals : ℕ → Bool
is_equals byte = byte == 0x3D

-- the name ends at the first `=`, and the number is what follows it
abbrev pub name_text : List ℕ → List ℕ
name_text word = before_first is_equals word

abbrev pub number_text : List ℕ → List ℕ
number_text word = after_first is_equals word

abbrev pub has_equals : List ℕ → Bool
has_equals word = is_some (position is_equals word)

-- a register's number, by its 64-bit name
abbrev pub register_named : List ℕ → Option ℕ
register_named text =
    if bytes_eq text (codes "rax") then Some 0
    else if bytes_eq text (codes "rcx") then Some 1
    else if bytes_eq text (codes "rdx") then Some 2
    else if bytes_eq text (codes "rbx") then Some 3
    else if bytes_eq text (codes "rsp") then Some 4
    else if bytes_eq text (codes "rbp") then Some 5
    else if bytes_eq text (codes "rsi") then Some 6
    else if bytes_eq text (codes "rdi") then Some 7
    else if bytes_eq text (codes "r8") then Some 8
    else if bytes_eq text (codes "r9") then Some 9
    else if bytes_eq text (codes "r10") then Some 10
    else if bytes_eq text (codes "r11") then Some 11
    else if bytes_eq text (codes "r12") then Some 12
    else if bytes_eq text (codes "r13") then Some 13
    else if bytes_eq text (codes "r14") then Some 14
    else if bytes_eq text (codes "r15") then Some 15
    else None

-- any other name
abbrev pub other_named : List ℕ → Option Name
other_named text =
    if bytes_eq text (codes "rip") then Some Rip
    else if bytes_eq text (codes "rflags") then Some Flags
    else if bytes_eq text (codes "cs") then Some Cs
    else if bytes_eq text (codes "gs") then Some Gs
    else if bytes_eq text (codes "due.rip") then Some DueRip
    else if bytes_eq text (codes "due.rflags") then Some DueFlags
    else if bytes_eq text (codes "due.rsp") then Some DueRsp
    else None

abbrev pub register_or : Option Name → Option ℕ → Option Name
register_or other None = other
register_or other (Some r) = Some (Register r)

abbrev pub named : List ℕ → Option Name
named text = register_or (other_named text) (register_named text)

-- what a handler gives back: RBX, RSP, RBP and R12 to R15
abbrev pub is_given_back : ℕ → Bool
is_given_back r = (nat_le 3 r && nat_le r 5) || nat_le 12 r

-- User code sets its whole processor, a handler's step its registers and edits, and a handler's end what it doesn't
-- give back.
abbrev pub may_set : Setter → Name → Bool
may_set ByUser (Register r) = true
may_set ByUser Rip = true
may_set ByUser Flags = true
may_set ByUser Cs = true
may_set ByUser Gs = true
may_set ByUser DueRip = false
may_set ByUser DueFlags = false
may_set ByUser DueRsp = false
may_set ByBody (Register r) = true
may_set ByBody Rip = true
may_set ByBody Flags = true
may_set ByBody Cs = false
may_set ByBody Gs = false
may_set ByBody DueRip = true
may_set ByBody DueFlags = true
may_set ByBody DueRsp = true
may_set ByLeave (Register r) = not (is_given_back r)
may_set ByLeave Rip = false
may_set ByLeave Flags = true
may_set ByLeave Cs = false
may_set ByLeave Gs = false
may_set ByLeave DueRip = false
may_set ByLeave DueFlags = false
may_set ByLeave DueRsp = false

abbrev pub may_set_named : Setter → Option Name → Bool
may_set_named setter None = false
may_set_named setter (Some name) = may_set setter name

-- the word has the form of an assignment, whatever stands in its number's place
abbrev pub is_assignment : Setter → List ℕ → Bool
is_assignment setter word = has_equals word && may_set_named setter (named (name_text word))

-- one of the words has this name
abbrev pub mentions : List ℕ → List (List ℕ) → Bool
mentions name words = list_any (λ w. bytes_eq (name_text w) name) words

-- each word has the form of an assignment, and no name stands twice
abbrev pub are_assignments : Setter → List (List ℕ) → Bool
are_assignments setter [] = true
are_assignments setter (word ∷ words) =
    is_assignment setter word && (not (mentions (name_text word) words) && are_assignments setter words)

-- CS has 16 bits, and all else 64
abbrev pub assigned : Name → ℕ → Option Assignment
assigned (Register r) n = Some (SetRegister r n)
assigned Rip n = Some (SetRip n)
assigned Flags n = Some (SetFlags n)
assigned Cs n = if nat_lt n 65536 then Some (SetCs n) else None
assigned Gs n = Some (SetGs n)
assigned DueRip n = Some (SetDueRip n)
assigned DueFlags n = Some (SetDueFlags n)
assigned DueRsp n = Some (SetDueRsp n)

-- what the word assigns, where its number is one and in range
abbrev pub assignment : List ℕ → Option Assignment
assignment word =
    option_and_then (λ name. option_and_then (assigned name) (number (number_text word))) (named (name_text word))

-- a word adds what it assigns
abbrev pub add_assignment : List Assignment → List ℕ → Result (List Assignment) LineFault
add_assignment earlier word = do
  a ← ok_or (assignment word) Number
  Ok (earlier ++ a ∷ [])

-- The form of each word comes before the numbers.
unfoldable pub assignments : Setter → List (List ℕ) → Result (List Assignment) LineFault
assignments setter words = do
  ok ← refuse (not (are_assignments setter words)) Form
  over add_assignment [] words
