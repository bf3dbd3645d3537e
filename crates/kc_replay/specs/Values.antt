-- What the lines of a trace put into the processor: this project's own. What a line doesn't assign is as `start` has
-- it, or, for a handler's lines, as it stands.
use Rattle.std.specs.Prelude.{ℕ, ◌==◌, Bool, true, false, nat_lt, List, [], ◌∷◌, ◌++◌, Option, Some, None, if◌then◌else◌, bit_and, bit_or, slice_get, slice_index, slice_set}
use Rattle.std.specs.Int.{w64, bit_at, bit_not}
use Rattle.std.specs.List.{fold}
use Rattle.std.specs.Option.{option_map_or}
use Rattle.kc_regions.specs.declared.entry.AfterIf.{AfterIf}
use Rattle.kc_regions.specs.declared.entry.AfterIf.TheVariants.{Keep, On, Off, Any}
use Rattle.kc_regions.specs.Description.{Description}
use Rattle.kc_regions.specs.Permission.{user_cs64}
use Rattle.kc_cpu.specs.declared.cpu.Cpu.{Cpu}
use Rattle.kc_cpu.specs.declared.cpu.Mode.{Mode}
use Rattle.kc_cpu.specs.declared.cpu.Mode.TheVariants.{User, Code, Inside}
use Rattle.kc_mem.specs.Memory.{next}
use Rattle.kc_events.specs.declared.turn.UserSet.{UserSet}
use Rattle.kc_events.specs.declared.turn.BodySet.{BodySet}
use Rattle.kc_events.specs.declared.turn.LeaveSet.{LeaveSet}
use Rattle.kc_events.specs.declared.turn.Edit.{Edit}
use Rattle.kc_trace.specs.declared.assignment.Assignment.{Assignment}
use Rattle.kc_trace.specs.declared.assignment.Assignment.TheVariants.{SetRegister, SetRip, SetFlags, SetCs, SetGs, SetDueRip, SetDueFlags, SetDueRsp}
use Rattle.kc_trace.specs.declared.line.Line.{Line}
use Rattle.kc_trace.specs.declared.line.Line.TheVariants.{Mem}

-- there are sixteen registers
abbrev pub with_value : List ℕ → ℕ → ℕ → List ℕ
with_value regs r n = if nat_lt r 16 then slice_set regs r n else regs

-- ---- bytes

-- the bytes from address a on; addresses wrap at 2^64
abbrev pub placed : ℕ → List ℕ → List (ℕ × ℕ)
placed a [] = []
placed a (b ∷ bs) = (a, b) ∷ placed (next a) bs

abbrev pub mem_writes : Line → Option (List (ℕ × ℕ))
mem_writes (Mem at bs) = Some (placed at bs)
mem_writes _ = None

-- what the `mem` lines write with which the lines begin
abbrev pub writes_of : List Line → List (ℕ × ℕ)
writes_of [] = []
writes_of (line ∷ lines) = option_map_or (λ writes. writes ++ writes_of lines) (mem_writes line) []

-- ---- user code

abbrev pub assign_user : UserSet → Assignment → UserSet
assign_user u (SetRegister r n) = record u { regs = with_value u.regs r n }
assign_user u (SetRip n) = record u { rip = n }
assign_user u (SetFlags n) = record u { flags = n }
assign_user u (SetCs n) = record u { cs = n }
assign_user u (SetGs n) = record u { gs = n }
assign_user u (SetDueRip n) = u
assign_user u (SetDueFlags n) = u
assign_user u (SetDueRsp n) = u

-- all 0, but RFLAGS has IF and bit 1, and CS is that of 64-bit user code
abbrev pub plain_user : Description → List (ℕ × ℕ) → UserSet
plain_user cfg writes = record {
  regs = 0 ∷ 0 ∷ 0 ∷ 0 ∷ 0 ∷ 0 ∷ 0 ∷ 0 ∷ 0 ∷ 0 ∷ 0 ∷ 0 ∷ 0 ∷ 0 ∷ 0 ∷ 0 ∷ [];
  rip = 0;
  flags = 0x202;
  cs = user_cs64 cfg.cpu;
  gs = 0;
  writes = writes;
}

abbrev pub user_set : Description → List Assignment → List (ℕ × ℕ) → UserSet
user_set cfg set writes = fold assign_user (plain_user cfg writes) set

-- ---- a handler's step

abbrev pub assign_body : BodySet → Assignment → BodySet
assign_body b (SetRegister r n) = record b { regs = with_value b.regs r n }
assign_body b (SetRip n) = record b { rip = n }
assign_body b (SetFlags n) = record b { flags = n }
assign_body b (SetCs n) = b
assign_body b (SetGs n) = b
assign_body b (SetDueRip n) = record b { edit = record b.edit { rip = Some n } }
assign_body b (SetDueFlags n) = record b { edit = record b.edit { flags = Some n } }
assign_body b (SetDueRsp n) = record b { edit = record b.edit { rsp = Some n } }

abbrev pub no_edit : Edit
no_edit = record { rip = None; flags = None; rsp = None }

abbrev pub same_body : Cpu → List (ℕ × ℕ) → BodySet
same_body cpu writes = record { regs = cpu.regs; rip = cpu.rip; flags = cpu.flags; writes = writes; edit = no_edit }

abbrev pub body_set : Cpu → List Assignment → List (ℕ × ℕ) → BodySet
body_set cpu set writes = fold assign_body (same_body cpu writes) set

-- ---- a handler's return

abbrev pub assign_leave : LeaveSet → Assignment → LeaveSet
assign_leave l (SetRegister r n) = record l { regs = with_value l.regs r n }
assign_leave l (SetFlags n) = record l { flags = n }
assign_leave l (SetRip n) = l
assign_leave l (SetCs n) = l
assign_leave l (SetGs n) = l
assign_leave l (SetDueRip n) = l
assign_leave l (SetDueFlags n) = l
assign_leave l (SetDueRsp n) = l

-- IF as the contract says, after a call with these flags; clear where it says nothing
abbrev pub sets_if : AfterIf → ℕ → Bool
sets_if Keep flags = bit_at flags 9 == 1
sets_if On flags = true
sets_if Off flags = false
sets_if Any flags = false

-- what the contract of the handler that runs says of IF
abbrev pub returns_if : Description → Mode → Bool
returns_if cfg User = false
returns_if cfg Code = false
returns_if cfg (Inside call) =
    option_map_or (λ h. sets_if h.after_if call.flags) (slice_get cfg.handlers call.handler) false

-- the flags with IF and DF clear
abbrev pub cleared : ℕ → ℕ
cleared flags = bit_and flags (bit_not w64 0x600)

abbrev pub leave_flags : Description → Cpu → ℕ
leave_flags cfg cpu = if returns_if cfg cpu.mode then bit_or (cleared cpu.flags) 0x200 else cleared cpu.flags

-- the registers that the handler doesn't give back; 0 in the place of the others
abbrev pub scratch : List ℕ → List ℕ
scratch regs =
    slice_index regs 0 ∷ slice_index regs 1 ∷ slice_index regs 2 ∷ 0 ∷ 0 ∷ 0 ∷ slice_index regs 6 ∷ slice_index regs 7
    ∷ slice_index regs 8 ∷ slice_index regs 9 ∷ slice_index regs 10 ∷ slice_index regs 11 ∷ 0 ∷ 0 ∷ 0 ∷ 0 ∷ []

abbrev pub same_leave : Description → Cpu → LeaveSet
same_leave cfg cpu = record { regs = scratch cpu.regs; flags = leave_flags cfg cpu }

abbrev pub leave_set : Description → Cpu → List Assignment → LeaveSet
leave_set cfg cpu set = fold assign_leave (same_leave cfg cpu) set
