-- What is known after each instruction, an equation an instruction in the order of the processor's table: the state,
-- one store, and where the program goes on. This project's own. Where a condition on the instruction fails, nothing is
-- said of what stands here.
use Rattle.std.specs.Prelude.{ℕ, ◌+◌, ◌-◌, ◌*◌, ◌/◌, ◌%◌, ◌^◌, Bool, true, false, ◌&&◌, ◌==◌, if◌then◌else◌, List, Option, Some, None, ℤ, pos, neg_ℤ, bit_and, bit_or}
use Rattle.std.specs.Int.{w64, cast_signed}
use Rattle.kc_bits.specs.KnownBits.{KnownBits}
use Rattle.kc_bits.specs.Bits.{flipped, all_of, bits_and, bits_or, bits_cut, bits_single, nothing_known}
use Rattle.kc_frames.specs.Slots.{redone}
use Rattle.kc_insn.specs.declared.insn.AluOp.{AluOp}
use Rattle.kc_insn.specs.declared.insn.AluOp.TheVariants as alu
use Rattle.kc_insn.specs.declared.insn.BitOp.{BitOp}
use Rattle.kc_insn.specs.declared.insn.BitOp.TheVariants as bits
use Rattle.kc_insn.specs.declared.insn.Insn.{Insn}
use Rattle.kc_insn.specs.declared.insn.Insn.TheVariants.{Nop, Endbr64, Lfence, Ud2, Cld, Clac, Stac, Cli, Sti, Swapgs, Sysretq, Iretq, Rdmsr, Wrmsr, Pushfq, Popfq, Ret, ReadCr3, WriteCr3, ReadGs, WriteGs, Mov, Lea, Xchg, Push, Pop, Alu, Test, Bit, Jcc, Jmp, Call}
use Rattle.kc_insn.specs.declared.insn.Place.{Place}
use Rattle.kc_insn.specs.declared.insn.Place.TheVariants as place
use Rattle.kc_insn.specs.declared.insn.Reg.{Reg}
use Rattle.kc_insn.specs.declared.insn.Source.{Source}
use Rattle.kc_insn.specs.declared.insn.Source.TheVariants as source
use Rattle.kc_regions.specs.Description.{Description}
use Rattle.kc_regions.specs.Lookup.{handler_of}
use Rattle.kc_space.specs.declared.map.MapState.{MapState}
use Rattle.kc_space.specs.declared.map.MapState.TheVariants as map
use Rattle.kc_space.specs.declared.tri.Tri.{Tri}
use Rattle.kc_space.specs.declared.tri.Tri.TheVariants.{No, Yes, Any}
use Rattle.kc_space.specs.declared.who.Who.{Who}
use Rattle.kc_space.specs.declared.who.Who.TheVariants as who
use Rattle.kc_value.specs.AbsValue.{AbsValue}
use Rattle.kc_value.specs.Value.{value_top, all_places}
use Rattle.kc_value.specs.declared.symbol.Sym.{Sym}
use Rattle.kc_value.specs.declared.symbol.Sym.TheVariants.{Base, UserGs}
use Rattle.kc_words.specs.Flags.{bits_of}
use Rattle.kc_words.specs.declared.width.Width.{Width}
use Rattle.kc_words.specs.declared.width.Width.TheVariants.{Quad}
use Rattle.kc_state.specs.Flags.{set_flag, clear_flag, alu_bits, alu_flags, bit_flags, holds, known_flag, tri_not}
use Rattle.kc_state.specs.Location.{location_of}
use Rattle.kc_state.specs.Memory.{stored}
use Rattle.kc_state.specs.Operand.{AbsMoment, register, with_register, number_value, bits_value, at_width, effective, linear, load_by, operand, destination}
use Rattle.kc_state.specs.Shift.{shifted}
use Rattle.kc_state.specs.declared.key.Key.{Key}
use Rattle.kc_state.specs.declared.location.Location.{Location}
use Rattle.kc_state.specs.declared.location.Location.TheVariants.{Number, Relative}
use Rattle.kc_state.specs.declared.cpu.AbsCpu.{AbsCpu}
use Rattle.kc_state.specs.declared.state.AbsState.{AbsState}
use Rattle.kc_state.specs.declared.succ.Succ.{Succ}
use Rattle.kc_state.specs.declared.succ.Succ.TheVariants.{Falls, Jumps, Branches, Calls, Returns}

-- ---- changes

-- a store of size bytes, and whether its address has the prefix 65
pub record AbsStore : Type 0 where
  pub at : Option Location
  pub size : ℕ
  pub value : AbsValue
  pub gs : Bool

-- the processor, the store, and where the program goes on
pub record AbsChange : Type 0 where
  pub cpu : AbsCpu
  pub store : Option AbsStore
  pub succ : Succ

-- the gap after an STI ends
abbrev pub goes : AbsMoment → Succ → AbsCpu → Option AbsStore → AbsChange
goes m succ s store =
    record { cpu = record s { latches = record s.latches { shadow = No } }; store = store; succ = succ }

abbrev pub falls : AbsMoment → AbsCpu → Option AbsStore → AbsChange
falls m s store = goes m Falls s store

abbrev pub with_flags : AbsMoment → KnownBits → AbsCpu → AbsCpu
with_flags m b s = record s { flags = bits_value m.d b }

-- ---- results

abbrev pub with_result : AbsMoment → Width → Place → AbsValue → AbsCpu → AbsCpu
with_result m w (place.Reg r) v s = with_register r (at_width m.d w v) s
with_result m w (place.Mem a) v s = s

abbrev pub store_of : AbsMoment → Width → Place → AbsValue → Option AbsStore
store_of m w (place.Reg r) v = None
store_of m w (place.Mem a) v =
    Some (record { at = location_of m.key (linear m a); size = bits_of w / 8; value = v; gs = a.gs })

-- an operation's flags, and its result, where it isn't dropped, into the destination
abbrev pub operated : AbsMoment → Width → Place → KnownBits → Option AbsValue → AbsChange
operated m w dest flags None = falls m (with_flags m flags m.cpu) None
operated m w dest flags (Some v) = falls m (with_result m w dest v (with_flags m flags m.cpu)) (store_of m w dest v)

-- ---- the stack

abbrev pub rsp : Reg
rsp = record { 0 = 4 }

abbrev pub only_stack : Option ℕ → ℕ
only_stack (Some s) = 2 ^ s
only_stack None = all_places

-- where RSP is an offset, it lies in the stack of the key
abbrev pub on_stack : Key → AbsValue → Option Location → AbsValue
on_stack key v (Some (Relative k)) = record v { stacks = only_stack key.stack }
on_stack key v (Some (Number a)) = v
on_stack key v None = v

-- RSP after a push
abbrev pub pushed : AbsMoment → AbsValue
pushed m =
    let v : AbsValue = shifted m.d m.key (register m.cpu rsp) (neg_ℤ (pos 8)) in
    on_stack m.key v (location_of m.key v)

abbrev pub with_pushed_rsp : AbsMoment → AbsCpu
with_pushed_rsp m = with_register rsp (pushed m) m.cpu

abbrev pub push_of : AbsMoment → AbsValue → Option AbsStore
push_of m v = Some (record { at = location_of m.key (pushed m); size = 8; value = v; gs = false })

-- the word at RSP, and RSP after it was popped
abbrev pub stack_word : AbsMoment → AbsValue
stack_word m = load_by m Quad (register m.cpu rsp)

abbrev pub with_popped_rsp : AbsMoment → AbsCpu
with_popped_rsp m = with_register rsp (shifted m.d m.key (register m.cpu rsp) (pos 8)) m.cpu

-- ---- arithmetic

-- the signed number of a word
abbrev pub signed : ℕ → ℤ
signed n = cast_signed w64 n

abbrev pub moved_base : AbsMoment → AluOp → AbsValue → ℕ → KnownBits → AbsValue
moved_base m alu.Add v n b = shifted m.d m.key v (signed n)
moved_base m alu.Sub v n b = shifted m.d m.key v (neg_ℤ (signed n))
moved_base m _ v n b = bits_value m.d b

abbrev pub is_based : Sym → Bool
is_based (Base k) = true
is_based _ = false

abbrev pub is_quad : Width → Bool
is_quad w = bits_of w == 64

abbrev pub moved_or : AbsMoment → Bool → AluOp → AbsValue → Option ℕ → KnownBits → AbsValue
moved_or m true op x (Some n) b = moved_base m op x n b
moved_or m true op x None b = bits_value m.d b
moved_or m false op x known b = bits_value m.d b

-- a sum or difference of 64 bits of the base and a constant moves the base; else only bits are known of a result
abbrev pub alu_value : AbsMoment → AluOp → Width → AbsValue → AbsValue → AbsValue
alu_value m op w x y =
    moved_or m (is_quad w && is_based x.sym) op x (bits_single y.bits)
    (alu_bits op (bits_of w) (bits_cut (bits_of w) x.bits) (bits_cut (bits_of w) y.bits))

abbrev pub alu_result : AbsMoment → AluOp → Width → AbsValue → AbsValue → Option AbsValue
alu_result m alu.Cmp w x y = None
alu_result m op w x y = Some (alu_value m op w x y)

abbrev pub alu_change : AbsMoment → AluOp → Width → Place → AbsValue → AbsValue → AbsChange
alu_change m op w dest x y =
    operated m w dest (alu_flags op (bits_of w) (bits_cut (bits_of w) x.bits) (bits_cut (bits_of w) y.bits)
    m.cpu.flags.bits) (alu_result m op w x y)

abbrev pub is_same_reg : Place → Source → Bool
is_same_reg (place.Reg r) (source.Reg s) = r.0 == s.0
is_same_reg _ _ = false

abbrev pub cancels : AluOp → Bool
cancels alu.Sub = true
cancels alu.Xor = true
cancels _ = false

abbrev pub bit_result : AbsMoment → BitOp → ℕ → KnownBits → Option AbsValue
bit_result m bits.«Test» i x = None
bit_result m bits.Set i x = Some (bits_value m.d (bits_or x (all_of (2 ^ i))))
bit_result m bits.Reset i x = Some (bits_value m.d (bits_and x (all_of (flipped (2 ^ i)))))

-- ---- branches

abbrev pub branch : Tri → ℕ → Succ
branch Yes target = Jumps target
branch No target = Falls
branch Any target = Branches target

abbrev pub jump_or_fall : Option ℕ → Succ
jump_or_fall (Some target) = Jumps target
jump_or_fall None = Falls

abbrev pub call_or_jump : ℕ → Option ℕ → Succ
call_or_jump target (Some h) = Calls h
call_or_jump target None = Jumps target

-- ---- flags that one instruction sets or loads

abbrev pub loaded_flags : KnownBits → KnownBits
loaded_flags b = record {
  zeros = bit_or (bit_and b.zeros 0x240FD5) (flipped 0x240FD7);
  ones = bit_or (bit_and b.ones 0x240FD5) 2;
}

-- the gap is open where IF was clear
abbrev pub with_gap : AbsMoment → AbsChange → AbsChange
with_gap m c =
    let latches = record c.cpu.latches { shadow = tri_not (known_flag m.cpu.flags.bits 9) } in
    record c { cpu = record c.cpu { latches = latches } }

-- ---- GS bases, model-specific registers and CR3

abbrev pub user_base : Bool → AbsValue
user_base true = record { sym = UserGs; bits = nothing_known; stacks = all_places }
user_base false = record { sym = UserGs; bits = record { zeros = 2 ^ 64 - 2 ^ 47; ones = 0 }; stacks = 2 ^ 16 }

-- what is known of a GS base
abbrev pub gs_value : Description → Who → AbsValue
gs_value d who.Kernel = number_value d d.cpu.kernel_gs
gs_value d who.User = user_base d.cpu.user_gs_writes
gs_value d who.Any = value_top

abbrev pub is_symbol_user_gs : Sym → Bool
is_symbol_user_gs UserGs = true
is_symbol_user_gs _ = false

abbrev pub who_by : Bool → Bool → Who
who_by true user = who.Kernel
who_by false true = who.User
who_by false false = who.Any

abbrev pub is_number : ℕ → Option ℕ → Bool
is_number n (Some m) = m == n
is_number n None = false

-- whose base a value is
abbrev pub who_of : Description → AbsValue → Who
who_of d v = who_by (is_number d.cpu.kernel_gs (bits_single v.bits)) (is_symbol_user_gs v.sym)

abbrev pub gs_base : ℕ
gs_base = 0xC0000101

abbrev pub kernel_gs_base : ℕ
kernel_gs_base = 0xC0000102

abbrev pub mcg_status : ℕ
mcg_status = 0x17A

abbrev pub rax : Reg
rax = record { 0 = 0 }

abbrev pub rcx : Reg
rcx = record { 0 = 1 }

abbrev pub rdx : Reg
rdx = record { 0 = 2 }

-- the number in ECX
abbrev pub msr_number : AbsCpu → Option ℕ
msr_number s = bits_single (bits_cut 32 (register s rcx).bits)

-- MCIP is bit 2
abbrev pub mcg_bits : Tri → KnownBits
mcg_bits No = all_of 0
mcg_bits Yes = all_of 4
mcg_bits Any = record { zeros = flipped 4; ones = 0 }

abbrev pub msr_bits : AbsMoment → Option ℕ → KnownBits
msr_bits m n =
    if is_number gs_base n then (gs_value m.d m.cpu.gs.active).bits else
    if is_number kernel_gs_base n then (gs_value m.d m.cpu.gs.inactive).bits else
    if is_number mcg_status n then mcg_bits m.cpu.latches.mcip else nothing_known

-- the upper 32 bits as a number
abbrev pub upper : KnownBits → KnownBits
upper b = record { zeros = b.zeros / 2 ^ 32 + (2 ^ 64 - 2 ^ 32); ones = b.ones / 2 ^ 32 }

-- EDX:EAX
abbrev pub edx_eax : AbsCpu → KnownBits
edx_eax s = record {
  zeros = (register s rdx).bits.zeros % 2 ^ 32 * 2 ^ 32 + (register s rax).bits.zeros % 2 ^ 32;
  ones = (register s rdx).bits.ones % 2 ^ 32 * 2 ^ 32 + (register s rax).bits.ones % 2 ^ 32;
}

abbrev pub who_of_bits : Description → KnownBits → Who
who_of_bits d b = who_by (is_number d.cpu.kernel_gs (bits_single b)) false

abbrev pub with_msr : AbsMoment → Option ℕ → AbsCpu
with_msr m n =
    if is_number gs_base n then record m.cpu { gs = record m.cpu.gs { active = who_of_bits m.d (edx_eax m.cpu) } } else
    if is_number kernel_gs_base n then
    record m.cpu { gs = record m.cpu.gs { inactive = who_of_bits m.d (edx_eax m.cpu) } } else
    if is_number mcg_status n then record m.cpu { latches = record m.cpu.latches { mcip = No } } else m.cpu

abbrev pub cr3_value : Description → MapState → AbsValue
cr3_value d map.Kernel = number_value d d.cpu.kernel_cr3
cr3_value d map.User = number_value d d.cpu.user_cr3
cr3_value d map.Any = value_top

-- the map that a value of CR3 names, without bit 63
abbrev pub map_of : Description → Option ℕ → MapState
map_of d (Some n) =
    if n % 2 ^ 63 == d.cpu.kernel_cr3 then map.Kernel else if n % 2 ^ 63 == d.cpu.user_cr3 then map.User else map.Any
map_of d None = map.Any

-- ---- the table

unfoldable pub abs_row : AbsMoment → Insn → AbsChange
abs_row m Nop = falls m m.cpu None
abs_row m Endbr64 = falls m m.cpu None
abs_row m Lfence = falls m m.cpu None
abs_row m Ud2 = falls m m.cpu None
abs_row m (Mov w dest src) =
    let v : AbsValue = operand m w src in
    falls m (with_result m w dest v m.cpu) (store_of m w dest v)
abs_row m (Lea w dest src) = falls m (with_register dest (at_width m.d w (effective m src)) m.cpu) None
abs_row m (Xchg w dest src) =
    let temp : AbsValue = destination m w dest in
    let v : AbsValue = operand m w (source.Reg src) in
    falls m (with_register src (at_width m.d w temp) (with_result m w dest v m.cpu)) (store_of m w dest v)
abs_row m (Push src) = falls m (with_pushed_rsp m) (push_of m (operand m Quad src))
abs_row m (Pop dest) =
    let v : AbsValue = stack_word m in
    let after : AbsMoment = record m { cpu = with_popped_rsp m } in
    falls m (with_result m Quad dest v after.cpu) (store_of after Quad dest v)
abs_row m Pushfq = falls m (with_pushed_rsp m) (push_of m m.cpu.flags)
abs_row m Popfq = falls m (with_flags m (loaded_flags (stack_word m).bits) (with_popped_rsp m)) None
abs_row m (Alu op w dest src) =
    if cancels op && is_same_reg dest src then alu_change m op w dest (number_value m.d 0) (number_value m.d 0)
    else alu_change m op w dest (destination m w dest) (operand m w src)
abs_row m (Test w dest src) =
    operated m w dest
    (alu_flags alu.And (bits_of w) (bits_cut (bits_of w) (destination m w dest).bits)
    (bits_cut (bits_of w) (operand m w src).bits) m.cpu.flags.bits) None
abs_row m (Bit op w dest number) =
    let x : KnownBits = bits_cut (bits_of w) (destination m w dest).bits in
    let i : ℕ = number % bits_of w in
    operated m w dest (bit_flags i x m.cpu.flags.bits) (bit_result m op i x)
abs_row m (Jcc code target) = goes m (branch (holds code m.cpu.flags.bits) target) m.cpu None
abs_row m (Jmp target) = goes m (Jumps target) m.cpu None
abs_row m (Call target) = goes m (call_or_jump target (handler_of m.d.handlers target)) (with_pushed_rsp m)
    (push_of m (number_value m.d m.next))
abs_row m Ret = goes m (jump_or_fall (bits_single (stack_word m).bits)) (with_popped_rsp m) None
abs_row m Cli = falls m (with_flags m (clear_flag 0x200 m.cpu.flags.bits) m.cpu) None
abs_row m Cld = falls m (with_flags m (clear_flag 0x400 m.cpu.flags.bits) m.cpu) None
abs_row m Clac = falls m (with_flags m (clear_flag 0x40000 m.cpu.flags.bits) m.cpu) None
abs_row m Stac = falls m (with_flags m (set_flag 0x40000 m.cpu.flags.bits) m.cpu) None
abs_row m Sti = with_gap m (falls m (with_flags m (set_flag 0x200 m.cpu.flags.bits) m.cpu) None)
abs_row m Swapgs =
    falls m (record m.cpu { gs = record { active = m.cpu.gs.inactive; inactive = m.cpu.gs.active } }) None
abs_row m (ReadGs r) = falls m (with_register r (gs_value m.d m.cpu.gs.active) m.cpu) None
abs_row m (WriteGs r) = falls m (record m.cpu { gs = record m.cpu.gs { active = who_of m.d (register m.cpu r) } }) None
abs_row m Rdmsr =
    let b : KnownBits = msr_bits m (msr_number m.cpu) in
    falls m (with_register rax (bits_value m.d (bits_cut 32 b)) (with_register rdx (bits_value m.d (upper b)) m.cpu))
    None
abs_row m Wrmsr = falls m (with_msr m (msr_number m.cpu)) None
abs_row m (ReadCr3 r) = falls m (with_register r (cr3_value m.d m.cpu.map) m.cpu) None
abs_row m (WriteCr3 r) = falls m (record m.cpu { map = map_of m.d (bits_single (register m.cpu r).bits) }) None
abs_row m Sysretq = goes m Returns m.cpu None
abs_row m Iretq = goes m Returns m.cpu None

-- ---- the store

abbrev pub with_store_at : Description → Key → List AbsValue → AbsStore → Option Location → List AbsValue
with_store_at d key slots st (Some l) = redone (stored d key l st.size st.value) 0 slots
with_store_at d key slots st None = slots

abbrev pub with_store : Description → Key → List AbsValue → Option AbsStore → List AbsValue
with_store d key slots (Some st) = with_store_at d key slots st st.at
with_store d key slots None = slots

abbrev pub moment_of : Description → Key → AbsState → ℕ → AbsMoment
moment_of d key s next = record {
  d = d;
  key = key;
  cpu = record { regs = s.regs; flags = s.flags; gs = s.gs; map = s.map; latches = s.latches };
  slots = s.slots;
  next = next;
}

-- the state with the change, and the store in it
abbrev pub applied : Description → Key → AbsState → AbsChange → AbsState
applied d key s c = record {
  regs = c.cpu.regs;
  flags = c.cpu.flags;
  gs = c.cpu.gs;
  map = c.cpu.map;
  latches = c.cpu.latches;
  floors = s.floors;
  slots = with_store d key s.slots c.store;
}
