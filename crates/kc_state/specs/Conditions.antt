-- The conditions on an instruction and the state before it, C4 and C6 to C12, each a test, this project's own.
use Rattle.std.specs.Prelude.{ℕ, ◌+◌, ◌-◌, ◌*◌, ◌/◌, ◌%◌, ◌^◌, Bool, true, false, cond, not, ◌&&◌, ◌||◌, ◌==◌, nat_le, if◌then◌else◌, List, [], ◌∷◌, ◌++◌, Option, Some, None, is_some, bit_and, pos, neg_ℤ, int_le}
use Rattle.std.specs.List.{list_all}
use Rattle.kc_bits.specs.KnownBits.{KnownBits}
use Rattle.kc_bits.specs.Bits.{word, bits_single}
use Rattle.kc_frames.specs.declared.floors.Floors.{Floors}
use Rattle.kc_insn.specs.declared.insn.Insn.{Insn}
use Rattle.kc_insn.specs.declared.insn.Insn.TheVariants.{Ud2, Sysretq, Iretq, Rdmsr, Wrmsr, Popfq, Ret, WriteCr3, WriteGs, Mov, Xchg, Push, Pop, Alu, Test, Bit, Call}
use Rattle.kc_insn.specs.declared.insn.Source.{Source}
use Rattle.kc_insn.specs.declared.insn.Source.TheVariants as source
use Rattle.kc_insn.specs.Fields.{source_of}
use Rattle.kc_regions.specs.Description.{Description}
use Rattle.kc_regions.specs.Lookup.{handler_of}
use Rattle.kc_regions.specs.Permission.{user_cs64, user_ss}
use Rattle.kc_regions.specs.Region.{stack_of, stack_at}
use Rattle.kc_regions.specs.declared.entry.Handler.{Handler}
use Rattle.kc_regions.specs.declared.region.Region.{Region}
use Rattle.kc_regions.specs.declared.touch.Touch.{Touch}
use Rattle.kc_regions.specs.declared.touch.Touch.TheVariants.{Read, Write}
use Rattle.kc_space.specs.Spaces.{is_same_who, is_same_map}
use Rattle.kc_space.specs.declared.map.MapState.TheVariants as map
use Rattle.kc_space.specs.declared.who.Who.TheVariants as who
use Rattle.kc_value.specs.AbsValue.{AbsValue}
use Rattle.kc_value.specs.declared.symbol.Sym.{Sym}
use Rattle.kc_value.specs.declared.symbol.Sym.TheVariants.{Entry, UserGs}
use Rattle.kc_words.specs.Flags.{bits_of}
use Rattle.kc_words.specs.declared.width.Width.{Width}
use Rattle.kc_words.specs.declared.width.Width.TheVariants.{Quad}
use Rattle.kc_state.specs.AbsEffect.{AbsStore, rsp, rcx, gs_base, kernel_gs_base, mcg_status, is_number, msr_number, edx_eax, map_of, pushed, stack_word}
use Rattle.kc_state.specs.Access.{may, clear}
use Rattle.kc_state.specs.Calls.{moved_up, called_handler, frame_of}
use Rattle.kc_state.specs.Location.{location_of}
use Rattle.kc_state.specs.Operand.{AbsMoment, register, linear, load_at}
use Rattle.kc_state.specs.Shift.{is_only_stack}
use Rattle.kc_state.specs.declared.location.Location.{Location}
use Rattle.kc_state.specs.declared.location.Location.TheVariants.{Number, Relative}

-- ---- the data accesses

-- an access of size bytes, and whether its address has the prefix 65
pub record AbsAccess : Type 0 where
  pub at : Option Location
  pub size : ℕ
  pub touch : Touch
  pub gs : Bool

abbrev pub read_of : AbsMoment → Width → Source → List AbsAccess
read_of m w (source.Mem a) =
    record { at = location_of m.key (linear m a); size = bits_of w / 8; touch = Read; gs = a.gs } ∷ []
read_of m w _ = []

abbrev pub moved_location : Option Location → ℕ → Option Location
moved_location (Some l) n = Some (moved_up l n)
moved_location None n = None

-- where word i of those on the stack lies
abbrev pub stack_location : AbsMoment → ℕ → Option Location
stack_location m i = moved_location (location_of m.key (register m.cpu rsp)) (8 * i)

abbrev pub stack_read : AbsMoment → ℕ → AbsAccess
stack_read m i = record { at = stack_location m i; size = 8; touch = Read; gs = false }

abbrev pub reads_of : AbsMoment → Insn → List AbsAccess
reads_of m (Mov w dest src) = read_of m w src
reads_of m (Xchg w dest src) = read_of m w (source_of dest)
reads_of m (Push src) = read_of m Quad src
reads_of m (Pop dest) = stack_read m 0 ∷ []
reads_of m Popfq = stack_read m 0 ∷ []
reads_of m (Alu op w dest src) = read_of m w (source_of dest) ++ read_of m w src
reads_of m (Test w dest src) = read_of m w (source_of dest) ++ read_of m w src
reads_of m (Bit op w dest number) = read_of m w (source_of dest)
reads_of m Ret = stack_read m 0 ∷ []
reads_of m Iretq = stack_read m 0 ∷ stack_read m 1 ∷ stack_read m 2 ∷ stack_read m 3 ∷ stack_read m 4 ∷ []
reads_of m _ = []

abbrev pub write_of : Option AbsStore → List AbsAccess
write_of (Some st) = record { at = st.at; size = st.size; touch = Write; gs = st.gs } ∷ []
write_of None = []

-- the reads of an instruction and then its store: IRETQ's descriptors aren't among them
abbrev pub accesses_of : AbsMoment → Insn → Option AbsStore → List AbsAccess
accesses_of m insn store = reads_of m insn ++ write_of store

-- ---- C4: the GS pair, CR3 and RSP are exact

abbrev pub is_word : Sym → ℕ → Bool
is_word (Entry i) w = i == w
is_word _ w = false

abbrev pub is_entry : AbsValue → ℕ → Bool
is_entry v w = is_word v.sym w

abbrev pub is_exact_at : AbsMoment → Bool → AbsValue → Option Location → Bool
is_exact_at m inside v (Some (Number a)) = true
is_exact_at m inside v (Some (Relative k)) = int_le (neg_ℤ (pos 4096)) k && is_only_stack v.stacks m.key.stack
is_exact_at m inside v None = not inside && is_entry v 4

abbrev pub is_exact : AbsMoment → Bool → Bool
is_exact m inside =
    (not (is_same_who m.cpu.gs.active who.Any) && (not (is_same_who m.cpu.gs.inactive who.Any)
    && not (is_same_map m.cpu.map map.Any)))
    && is_exact_at m inside (register m.cpu rsp) (location_of m.key (register m.cpu rsp))

-- ---- C6: a GS access uses the kernel's base

abbrev pub uses_kernel_gs : AbsMoment → List AbsAccess → Bool
uses_kernel_gs m all = is_same_who m.cpu.gs.active who.Kernel || list_all (λ a. not a.gs) all

-- ---- C7: each access is permitted

abbrev pub may_at : AbsMoment → Option Location → ℕ → Touch → Bool
may_at m (Some l) size touch = may m.d m.key m.cpu.map l size touch
may_at m None size touch = false

abbrev pub may_read_descriptor : AbsMoment → ℕ → Bool
may_read_descriptor m selector =
    may m.d m.key m.cpu.map (Number (word (m.d.cpu.gdt + (selector - selector % 8)))) 8 Read

abbrev pub may_read_cs32 : AbsMoment → Option ℕ → Bool
may_read_cs32 m (Some cs) = may_read_descriptor m cs
may_read_cs32 m None = true

-- the descriptors of the selectors that a return may load
abbrev pub may_read_descriptors : AbsMoment → Bool
may_read_descriptors m =
    if m.key.kernel then may_read_descriptor m m.d.cpu.star_kernel && may_read_descriptor m (m.d.cpu.star_kernel + 8)
    else may_read_cs32 m m.d.cpu.user_cs32 && (may_read_descriptor m (user_cs64 m.d.cpu)
    && may_read_descriptor m (user_ss m.d.cpu))

abbrev pub permits_more : AbsMoment → Insn → Bool
permits_more m Ret = is_some (bits_single (stack_word m).bits)
permits_more m Iretq = may_read_descriptors m
permits_more m _ = true

abbrev pub is_permitted : AbsMoment → Insn → List AbsAccess → Bool
is_permitted m insn all = list_all (λ a. may_at m a.at a.size a.touch) all && permits_more m insn

-- ---- C8: no live stack byte is written

abbrev pub is_write : Touch → Bool
is_write Write = true
is_write _ = false

abbrev pub clear_at : AbsMoment → Floors → Option Location → ℕ → Bool
clear_at m floors (Some l) size = clear m.d m.key floors l size
clear_at m floors None size = false

abbrev pub is_clear : AbsMoment → Floors → List AbsAccess → Bool
is_clear m floors all = list_all (λ a. not (is_write a.touch) || clear_at m floors a.at a.size) all

-- ---- C9: CR3 is loaded with one of its two values

abbrev pub loads_known_cr3 : AbsMoment → Insn → Bool
loads_known_cr3 m (WriteCr3 r) = not (is_same_map (map_of m.d (bits_single (register m.cpu r).bits)) map.Any)
loads_known_cr3 m _ = true

-- ---- C10: a handler is called with the kernel's GS base and CR3 and a free stack

-- the 40 bytes from a + f lie in the stack
abbrev pub holds_frame : Region → ℕ → Option ℕ → Bool
holds_frame r a (Some f) = nat_le r.span.from (a + f) && nat_le (a + f + 40) r.span.to
holds_frame r a None = true

abbrev pub has_room_in : ℕ → Handler → Option ℕ → Option Region → Bool
has_room_in a h frame (Some r) = nat_le (r.span.from + h.stack) (a + 4096) && holds_frame r a frame
has_room_in a h frame None = false

abbrev pub stack_region : Description → Option ℕ → Option Region
stack_region d (Some s) = stack_at d.regions s
stack_region d None = None

abbrev pub has_room : AbsMoment → Handler → Location → Bool
has_room m h (Number a) = has_room_in a h (frame_of m.key h) (stack_region m.d (stack_of m.d.regions a))
has_room m h (Relative k) = is_some m.key.stack && (nat_le h.stack 4096 && not (is_some (frame_of m.key h)))

abbrev pub calls_well_at : AbsMoment → Floors → Handler → Option Location → Bool
calls_well_at m floors h (Some l) =
    is_same_who m.cpu.gs.active who.Kernel &&
    (is_same_map m.cpu.map map.Kernel && (clear m.d m.key floors l 0 && has_room m h l))
calls_well_at m floors h None = false

abbrev pub calls_handler : AbsMoment → Floors → Option Handler → Bool
calls_handler m floors (Some h) = calls_well_at m floors h (location_of m.key (pushed m))
calls_handler m floors None = true

abbrev pub calls_well : AbsMoment → Floors → Insn → Bool
calls_well m floors (Call target) = calls_handler m floors (called_handler m.d (handler_of m.d.handlers target))
calls_well m floors _ = true

-- ---- C11: no instruction or register number is forbidden

-- bits 47 to 63 are known alike
abbrev pub is_canonical : KnownBits → Bool
is_canonical b =
    (bit_and b.zeros (2 ^ 64 - 2 ^ 47) == 2 ^ 64 - 2 ^ 47) || (bit_and b.ones (2 ^ 64 - 2 ^ 47) == 2 ^ 64 - 2 ^ 47)

abbrev pub is_user_gs : Sym → Bool
is_user_gs UserGs = true
is_user_gs _ = false

abbrev pub is_base_number : Option ℕ → Bool
is_base_number n = is_number gs_base n || is_number kernel_gs_base n

abbrev pub is_allowed : AbsMoment → Insn → Bool
is_allowed m Ud2 = false
is_allowed m Rdmsr = is_base_number (msr_number m.cpu) || is_number mcg_status (msr_number m.cpu)
is_allowed m Wrmsr =
    if is_base_number (msr_number m.cpu) then is_canonical (edx_eax m.cpu)
    else (is_number mcg_status (msr_number m.cpu) && is_number 0 (bits_single (edx_eax m.cpu)))
is_allowed m (WriteGs r) = is_user_gs (register m.cpu r).sym || is_canonical (register m.cpu r).bits
is_allowed m Sysretq = m.key.syscall
is_allowed m _ = true

-- ---- C12: a return restores the interrupted context

abbrev pub frame_word : AbsMoment → ℕ → AbsValue
frame_word m i = load_at m Quad (stack_location m i)

-- the CS that a return has to load, where there is one alone
abbrev pub due_cs : AbsMoment → Option ℕ
due_cs m =
    if m.key.kernel then Some m.d.cpu.star_kernel else
    if m.key.syscall || not (is_some m.d.cpu.user_cs32) then Some (user_cs64 m.d.cpu) else None

-- a value is the constant that is due
abbrev pub is_due : AbsValue → Option ℕ → Bool
is_due v (Some n) = is_number n (bits_single v.bits)
is_due v None = false

abbrev pub due_ss : AbsMoment → Option ℕ
due_ss m = cond m.key.kernel None (Some (user_ss m.d.cpu))

abbrev pub frame_restores : AbsMoment → Bool
frame_restores m =
    is_entry (frame_word m 0) 16 && ((is_entry (frame_word m 1) 18 || is_due (frame_word m 1) (due_cs m)) &&
    (is_entry (frame_word m 2) 17
    && (is_entry (frame_word m 3) 4 && (is_entry (frame_word m 4) 19 || is_due (frame_word m 4) (due_ss m)))))

abbrev pub are_entries : ℕ → List AbsValue → Bool
are_entries w [] = true
are_entries w (v ∷ vs) = ((w == 4) || is_entry v w) && are_entries (w + 1) vs

-- GS pair and map are the key's, and for a return into the kernel each register but RSP is its own
abbrev pub rest_restores : AbsMoment → Bool
rest_restores m =
    (is_same_who m.cpu.gs.active m.key.gs.active && (is_same_who m.cpu.gs.inactive m.key.gs.inactive
    && is_same_map m.cpu.map m.key.map))
    && (not m.key.kernel || are_entries 0 m.cpu.regs)

abbrev pub restores : AbsMoment → Insn → Bool
restores m Iretq = frame_restores m && rest_restores m
restores m Sysretq =
    (is_entry (register m.cpu rcx) 16 && (is_entry (register m.cpu (record { 0 = 11 })) 17
    && is_entry (register m.cpu rsp) 4)) && rest_restores m
restores m _ = true
