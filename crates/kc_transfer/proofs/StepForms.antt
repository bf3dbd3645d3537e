-- Every row of the table leaves what is well-formed, and so does the call of a handler: by cases on the instruction,
-- over the values that it makes. Then the state after a step is well-formed where the one before it is.
use Rattle.std.proofs.Common.{◌≡◌, ◌≢◌, ℕ, ◌%◌, ◌^◌, Bool, true, false, cond, ◌&&◌, ◌||◌, List, [], ◌∷◌, map, get_or, All, Option, Some, None, IfSome, IfOk, Result, Ok, Err, ℤ, pos, neg_ℤ, slice_get, bit_and, arith, refl, ap, subst}
use Rattle.std.proofs.lemmas.Nat.{and_le_r}
use Rattle.std.proofs.lemmas.List.Elements.{All-from_recursion, All-nil, All-cons, All-head, All-tail}
use Rattle.kc_bits.specs.KnownBits.{KnownBits}
use Rattle.kc_bits.specs.Bits.{bits_cut, bits_single, nothing_known, bits_joined, bits_and, bits_or, all_of, flipped}
use Rattle.kc_frames.specs.Slots.{redone}
use Rattle.kc_insn.specs.declared.insn.AluOp.{AluOp}
use Rattle.kc_insn.specs.declared.insn.AluOp.TheVariants as alu
use Rattle.kc_insn.specs.declared.insn.BitOp.{BitOp}
use Rattle.kc_insn.specs.declared.insn.BitOp.TheVariants as bits
use Rattle.kc_insn.specs.declared.insn.Insn.{Insn}
use Rattle.kc_insn.specs.declared.insn.Insn.TheVariants.{Nop, Endbr64, Lfence, Ud2, Cld, Clac, Stac, Cli, Sti, Swapgs, Sysretq, Iretq, Rdmsr, Wrmsr, Pushfq, Popfq, Ret, ReadCr3, WriteCr3, ReadGs, WriteGs, Mov, Lea, Xchg, Push, Pop, Alu, Test, Bit, Jcc, Jmp, Call}
use Rattle.kc_insn.specs.declared.insn.Place.{Place}
use Rattle.kc_insn.specs.declared.insn.Place.TheVariants as place
use Rattle.kc_insn.specs.declared.insn.Reg.{Reg}
use Rattle.kc_insn.specs.declared.insn.Source.TheVariants as source
use Rattle.kc_regions.specs.Description.{Description}
use Rattle.kc_rules.proofs.AnswerLemmas.{ok_is}
use Rattle.kc_regions.specs.Lookup.{handler_of}
use Rattle.kc_regions.specs.declared.entry.Handler.{Handler}
use Rattle.kc_space.specs.declared.map.MapState.{MapState}
use Rattle.kc_space.specs.declared.map.MapState.TheVariants as space
use Rattle.kc_space.specs.declared.tri.Tri.TheVariants.{No}
use Rattle.kc_space.specs.declared.who.Who.{Who}
use Rattle.kc_space.specs.declared.who.Who.TheVariants as who
use Rattle.kc_value.specs.AbsValue.{AbsValue}
use Rattle.kc_value.specs.Made.{plain}
use Rattle.kc_value.specs.Value.{value_top, value_joined}
use Rattle.kc_words.specs.Flags.{bits_of}
use Rattle.kc_words.specs.declared.width.Width.{Width}
use Rattle.kc_words.specs.declared.width.Width.TheVariants.{Quad}
use Rattle.kc_state.specs.AbsEffect.{AbsStore, AbsChange, goes, with_flags, with_result, store_of, operated, rsp, only_stack, on_stack, pushed, with_pushed_rsp, push_of, stack_word, with_popped_rsp, moved_base, moved_or, alu_value, alu_result, alu_change, bit_result, user_base, gs_value, rax, rdx, msr_number, msr_bits, upper, with_msr, is_number, gs_base, kernel_gs_base, mcg_status, edx_eax, who_of_bits, cr3_value, loaded_flags, abs_row, applied, with_store_at, with_store, signed, cancels, is_same_reg, moment_of, is_quad, is_based}
use Rattle.kc_state.specs.AbsStep.{entered, with_call, conditions, answer, abs_step}
use Rattle.kc_state.specs.Calls.{moved_down, moved_up, used, edited_rip, edited_flags, edited_rsp, is_edited_sym, tame, edited_by, edited, with_edits, frame_of, called_at, called_handler, left, left_of, left_flags, left_registers, after_handler}
use Rattle.kc_state.specs.Flags.{alu_bits, alu_flags, bit_flags, clear_flag, set_flag}
use Rattle.kc_state.specs.Location.{location_of}
use Rattle.kc_state.specs.Memory.{hits, is_just, meets_word, stored}
use Rattle.kc_state.specs.Operand.{AbsMoment, register, with_register, number_value, bits_value, at_width, effective, operand, destination}
use Rattle.kc_state.specs.Places.{word_of, location_stack}
use Rattle.kc_state.specs.Shift.{shifted}
use Rattle.kc_state.specs.WellFormed.{IsWellFormed, IsStateWellFormed}
use Rattle.kc_state.specs.declared.cpu.AbsCpu.{AbsCpu}
use Rattle.kc_state.specs.declared.condition.Condition.{Condition}
use Rattle.kc_state.specs.declared.key.Key.{Key}
use Rattle.kc_state.specs.declared.location.Location.{Location}
use Rattle.kc_state.specs.declared.location.Location.TheVariants.{Number, Relative}
use Rattle.kc_state.specs.declared.state.AbsState.{AbsState}
use Rattle.kc_state.specs.declared.succ.Succ.{Succ}
use Rattle.kc_state.specs.declared.succ.Succ.TheVariants.{Falls, Jumps, Branches, Calls, Returns}
use Rattle.kc_state.specs.declared.scratch.Scratch.{Scratch}
use Rattle.kc_transfer.specs.Step.{Steps}
use Rattle.kc_state.proofs.ValueForms.{one_place, any_place, value_if, bits_formed, number_formed, top_formed, plain_formed, width_formed, shifted_formed, other_places, joined_formed, each_read, each_set}
use Rattle.kc_state.proofs.MomentForms.{IsMomentFormed, load_formed, register_formed, effective_formed, operand_formed, destination_formed, redone_formed, stored_formed}

-- ---- changes

pub record IsCpuFormed (d : Description) (key : Key) (cpu : AbsCpu) : Type 0 where
  pub regs : All (IsWellFormed d key) cpu.regs
  pub flags : IsWellFormed d key cpu.flags

abbrev pub IsStoreFormed : Description → Key → Option AbsStore → Type 0
IsStoreFormed d key store = IfSome store (λ s. IsWellFormed d key s.value)

pub record IsChangeFormed (d : Description) (key : Key) (c : AbsChange) : Type 0 where
  pub cpu : IsCpuFormed d key c.cpu
  pub store : IsStoreFormed d key c.store

own : (m : AbsMoment) → IsMomentFormed m → IsCpuFormed m.d m.key m.cpu
own m h = record { regs = h.regs; flags = h.flags }

put : (d : Description) (key : Key) (r : Reg) (v : AbsValue) (cpu : AbsCpu) → IsWellFormed d key v
    → IsCpuFormed d key cpu → IsCpuFormed d key (with_register r v cpu)
put d key r v cpu hv h = record { regs = each_set d key cpu.regs r.0 v hv h.regs; flags = h.flags }

flagged : (m : AbsMoment) (b : KnownBits) (cpu : AbsCpu) → IsCpuFormed m.d m.key cpu
    → IsCpuFormed m.d m.key (with_flags m b cpu)
flagged m b cpu h = record { regs = h.regs; flags = bits_formed m.d m.key b }

change : (m : AbsMoment) (succ : Succ) (cpu : AbsCpu) (store : Option AbsStore) → IsCpuFormed m.d m.key cpu
    → IsStoreFormed m.d m.key store
    → IsChangeFormed m.d m.key (goes m succ cpu store)
change m succ cpu store h hs = record { cpu = record { regs = h.regs; flags = h.flags }; store = hs }

result_formed : (m : AbsMoment) (w : Width) (dest : Place) (v : AbsValue) (cpu : AbsCpu) → IsWellFormed m.d m.key v
    → IsCpuFormed m.d m.key cpu
    → IsCpuFormed m.d m.key (with_result m w dest v cpu)
result_formed m w (place.Reg r) v cpu hv h = put m.d m.key r (at_width m.d w v) cpu (width_formed m.d m.key w v hv) h
result_formed m w (place.Mem a) v cpu hv h = h

store_formed : (m : AbsMoment) (w : Width) (dest : Place) (v : AbsValue) → IsWellFormed m.d m.key v
    → IsStoreFormed m.d m.key (store_of m w dest v)
store_formed m w (place.Reg r) v hv = tt
store_formed m w (place.Mem a) v hv = hv

operated_formed : (m : AbsMoment) (w : Width) (dest : Place) (flags : KnownBits) (v : Option AbsValue)
    → IsMomentFormed m → IfSome v (IsWellFormed m.d m.key)
    → IsChangeFormed m.d m.key (operated m w dest flags v)
operated_formed m w dest flags None h hv =
    change m Falls (with_flags m flags m.cpu) None (flagged m flags m.cpu (own m h)) tt
operated_formed m w dest flags (Some v) h hv =
    change m Falls (with_result m w dest v (with_flags m flags m.cpu)) (store_of m w dest v)
    (result_formed m w dest v (with_flags m flags m.cpu) hv (flagged m flags m.cpu (own m h)))
    (store_formed m w dest v hv)

-- ---- the stack

one_or_all : (stack : Option ℕ) → only_stack stack ≢ 0
one_or_all (Some s) = one_place s
one_or_all None = any_place

on_formed : (d : Description) (key : Key) (v : AbsValue) (l : Option Location) → IsWellFormed d key v
    → IsWellFormed d key (on_stack key v l)
on_formed d key v (Some (Relative k)) h =
    record { symbol = other_places d key v (only_stack key.stack) v.sym h.symbol; somewhere = one_or_all key.stack }
on_formed d key v (Some (Number a)) h = h
on_formed d key v None h = h

moved_rsp : (m : AbsMoment) (c : ℤ) → IsMomentFormed m
    → IsWellFormed m.d m.key (shifted m.d m.key (register m.cpu rsp) c)
moved_rsp m c h = shifted_formed m.d m.key (register m.cpu rsp) c (register_formed m rsp h)

pushed_formed : (m : AbsMoment) → IsMomentFormed m → IsWellFormed m.d m.key (pushed m)
pushed_formed m h =
    let v : AbsValue = shifted m.d m.key (register m.cpu rsp) (neg_ℤ (pos 8)) in
    on_formed m.d m.key v (location_of m.key v) (moved_rsp m (neg_ℤ (pos 8)) h)

push_cpu : (m : AbsMoment) → IsMomentFormed m → IsCpuFormed m.d m.key (with_pushed_rsp m)
push_cpu m h = put m.d m.key rsp (pushed m) m.cpu (pushed_formed m h) (own m h)

pop_cpu : (m : AbsMoment) → IsMomentFormed m → IsCpuFormed m.d m.key (with_popped_rsp m)
pop_cpu m h = put m.d m.key rsp (shifted m.d m.key (register m.cpu rsp) (pos 8)) m.cpu (moved_rsp m (pos 8) h) (own m h)

word_formed : (m : AbsMoment) → IsMomentFormed m → IsWellFormed m.d m.key (stack_word m)
word_formed m h = load_formed m Quad (register m.cpu rsp) h

-- ---- arithmetic

moved_base_formed : (m : AbsMoment) (op : AluOp) (v : AbsValue) (n : ℕ) (b : KnownBits) → IsWellFormed m.d m.key v
    → IsWellFormed m.d m.key (moved_base m op v n b)
moved_base_formed m alu.Add v n b h = shifted_formed m.d m.key v (signed n) h
moved_base_formed m alu.Sub v n b h = shifted_formed m.d m.key v (neg_ℤ (signed n)) h
moved_base_formed m alu.Or v n b h = bits_formed m.d m.key b
moved_base_formed m alu.And v n b h = bits_formed m.d m.key b
moved_base_formed m alu.Xor v n b h = bits_formed m.d m.key b
moved_base_formed m alu.Cmp v n b h = bits_formed m.d m.key b

moved_or_formed : (m : AbsMoment) (moves : Bool) (op : AluOp) (x : AbsValue) (n : Option ℕ) (b : KnownBits)
    → IsWellFormed m.d m.key x
    → IsWellFormed m.d m.key (moved_or m moves op x n b)
moved_or_formed m true op x (Some n) b h = moved_base_formed m op x n b h
moved_or_formed m true op x None b h = bits_formed m.d m.key b
moved_or_formed m false op x n b h = bits_formed m.d m.key b

alu_value_formed : (m : AbsMoment) (op : AluOp) (w : Width) (x y : AbsValue) → IsWellFormed m.d m.key x
    → IsWellFormed m.d m.key (alu_value m op w x y)
alu_value_formed m op w x y h =
    moved_or_formed m (is_quad w && is_based x.sym) op x (bits_single y.bits)
    (alu_bits op (bits_of w) (bits_cut (bits_of w) x.bits) (bits_cut (bits_of w) y.bits)) h

alu_formed : (m : AbsMoment) (op : AluOp) (w : Width) (x y : AbsValue) → IsWellFormed m.d m.key x
    → IfSome (alu_result m op w x y) (IsWellFormed m.d m.key)
alu_formed m alu.Cmp w x y h = tt
alu_formed m alu.Add w x y h = alu_value_formed m alu.Add w x y h
alu_formed m alu.Or w x y h = alu_value_formed m alu.Or w x y h
alu_formed m alu.And w x y h = alu_value_formed m alu.And w x y h
alu_formed m alu.Sub w x y h = alu_value_formed m alu.Sub w x y h
alu_formed m alu.Xor w x y h = alu_value_formed m alu.Xor w x y h

alu_change_formed : (m : AbsMoment) (op : AluOp) (w : Width) (dest : Place) (x y : AbsValue) → IsMomentFormed m
    → IsWellFormed m.d m.key x
    → IsChangeFormed m.d m.key (alu_change m op w dest x y)
alu_change_formed m op w dest x y h hx =
    operated_formed m w dest (alu_flags op (bits_of w) (bits_cut (bits_of w) x.bits) (bits_cut (bits_of w) y.bits)
    m.cpu.flags.bits) (alu_result m op w x y) h
    (alu_formed m op w x y hx)

change_if : (d : Description) (key : Key) (b : Bool) (x y : AbsChange) → IsChangeFormed d key x → IsChangeFormed d key y
    → IsChangeFormed d key (cond b x y)
change_if d key true x y hx hy = hx
change_if d key false x y hx hy = hy

bit_formed : (m : AbsMoment) (op : BitOp) (i : ℕ) (x : KnownBits)
    → IfSome (bit_result m op i x) (IsWellFormed m.d m.key)
bit_formed m bits.«Test» i x = tt
bit_formed m bits.Set i x = bits_formed m.d m.key (bits_or x (all_of (2 ^ i)))
bit_formed m bits.Reset i x = bits_formed m.d m.key (bits_and x (all_of (flipped (2 ^ i))))

-- ---- spaces

user_formed : (d : Description) (key : Key) (writes : Bool) → IsWellFormed d key (user_base writes)
user_formed d key true = record { symbol = (refl, refl); somewhere = any_place }
user_formed d key false = record { symbol = (refl, refl); somewhere = one_place 16 }

gs_formed : (d : Description) (key : Key) (w : Who) → IsWellFormed d key (gs_value d w)
gs_formed d key who.Kernel = number_formed d key d.cpu.kernel_gs
gs_formed d key who.User = user_formed d key d.cpu.user_gs_writes
gs_formed d key who.Any = top_formed d key

cr3_formed : (d : Description) (key : Key) (s : MapState) → IsWellFormed d key (cr3_value d s)
cr3_formed d key space.Kernel = number_formed d key d.cpu.kernel_cr3
cr3_formed d key space.User = number_formed d key d.cpu.user_cr3
cr3_formed d key space.Any = top_formed d key

cpu_if : (d : Description) (key : Key) (b : Bool) (x y : AbsCpu) → IsCpuFormed d key x → IsCpuFormed d key y
    → IsCpuFormed d key (cond b x y)
cpu_if d key true x y hx hy = hx
cpu_if d key false x y hx hy = hy

msr_formed : (m : AbsMoment) (n : Option ℕ) → IsMomentFormed m → IsCpuFormed m.d m.key (with_msr m n)
msr_formed m n h =
    let b = edx_eax m.cpu in
    let active : AbsCpu = record m.cpu { gs = record m.cpu.gs { active = who_of_bits m.d b } } in
    let inactive : AbsCpu = record m.cpu { gs = record m.cpu.gs { inactive = who_of_bits m.d b } } in
    let free : AbsCpu = record m.cpu { latches = record m.cpu.latches { mcip = No } } in
    let third : AbsCpu = cond (is_number mcg_status n) free m.cpu in
    let second : AbsCpu = cond (is_number kernel_gs_base n) inactive third in
    let f : IsCpuFormed m.d m.key free = record { regs = h.regs; flags = h.flags } in
    let i : IsCpuFormed m.d m.key inactive = record { regs = h.regs; flags = h.flags } in
    let a : IsCpuFormed m.d m.key active = record { regs = h.regs; flags = h.flags } in
    cpu_if m.d m.key (is_number gs_base n) active second a
    (cpu_if m.d m.key (is_number kernel_gs_base n) inactive third i
    (cpu_if m.d m.key (is_number mcg_status n) free m.cpu f (own m h)))

-- ---- the table

set_formed : (m : AbsMoment) (b : KnownBits) → IsMomentFormed m
    → IsChangeFormed m.d m.key (goes m Falls (with_flags m b m.cpu) None)
set_formed m b h = change m Falls (with_flags m b m.cpu) None (flagged m b m.cpu (own m h)) tt

pub row_formed : (m : AbsMoment) (insn : Insn) → IsMomentFormed m → IsChangeFormed m.d m.key (abs_row m insn)
unfolding abs_row
row_formed m Nop h = change m Falls m.cpu None (own m h) tt
row_formed m Endbr64 h = change m Falls m.cpu None (own m h) tt
row_formed m Lfence h = change m Falls m.cpu None (own m h) tt
row_formed m Ud2 h = change m Falls m.cpu None (own m h) tt
row_formed m (Mov w dest src) h =
    let v = operand m w src in
    let hv = operand_formed m w src h in
    change m Falls (with_result m w dest v m.cpu) (store_of m w dest v) (result_formed m w dest v m.cpu hv (own m h))
    (store_formed m w dest v hv)
row_formed m (Lea w dest src) h =
    let v = at_width m.d w (effective m src) in
    change m Falls (with_register dest v m.cpu) None
    (put m.d m.key dest v m.cpu (width_formed m.d m.key w (effective m src) (effective_formed m src h)) (own m h)) tt
row_formed m (Xchg w dest src) h =
    let v = operand m w (source.Reg src) in
    let hv = operand_formed m w (source.Reg src) h in
    let old = at_width m.d w (destination m w dest) in
    let cpu = with_result m w dest v m.cpu in
    change m Falls (with_register src old cpu) (store_of m w dest v)
    (put m.d m.key src old cpu (width_formed m.d m.key w (destination m w dest) (destination_formed m w dest h))
    (result_formed m w dest v m.cpu hv (own m h)))
    (store_formed m w dest v hv)
row_formed m (Push src) h =
    change m Falls (with_pushed_rsp m) (push_of m (operand m Quad src)) (push_cpu m h) (operand_formed m Quad src h)
row_formed m (Pop dest) h =
    let v = stack_word m in
    let hv = word_formed m h in
    let cpu = with_popped_rsp m in
    change m Falls (with_result m Quad dest v cpu) (store_of (record m { cpu = cpu }) Quad dest v)
    (result_formed m Quad dest v cpu hv (pop_cpu m h))
    (store_formed (record m { cpu = cpu }) Quad dest v hv)
row_formed m Pushfq h = change m Falls (with_pushed_rsp m) (push_of m m.cpu.flags) (push_cpu m h) h.flags
row_formed m Popfq h =
    let b = loaded_flags (stack_word m).bits in
    change m Falls (with_flags m b (with_popped_rsp m)) None (flagged m b (with_popped_rsp m) (pop_cpu m h)) tt
row_formed m (Alu op w dest src) h =
    change_if m.d m.key (cancels op && is_same_reg dest src) (alu_change m op w dest (number_value m.d 0)
    (number_value m.d 0))
    (alu_change m op w dest (destination m w dest) (operand m w src))
    (alu_change_formed m op w dest (number_value m.d 0) (number_value m.d 0) h (number_formed m.d m.key 0))
    (alu_change_formed m op w dest (destination m w dest) (operand m w src) h (destination_formed m w dest h))
row_formed m (Test w dest src) h =
    let x = bits_cut (bits_of w) (destination m w dest).bits in
    let y = bits_cut (bits_of w) (operand m w src).bits in
    operated_formed m w dest (alu_flags alu.And (bits_of w) x y m.cpu.flags.bits) None h tt
row_formed m (Bit op w dest number) h =
    let x = bits_cut (bits_of w) (destination m w dest).bits in
    operated_formed m w dest (bit_flags (number % bits_of w) x m.cpu.flags.bits)
    (bit_result m op (number % bits_of w) x) h (bit_formed m op (number % bits_of w) x)
row_formed m (Jcc code target) h = record { cpu = record { regs = h.regs; flags = h.flags }; store = tt }
row_formed m (Jmp target) h = record { cpu = record { regs = h.regs; flags = h.flags }; store = tt }
row_formed m (Call target) h =
    record { cpu = record { regs = (push_cpu m h).regs; flags = h.flags }; store = number_formed m.d m.key m.next }
row_formed m Ret h = record { cpu = record { regs = (pop_cpu m h).regs; flags = h.flags }; store = tt }
row_formed m Cli h = set_formed m (clear_flag 0x200 m.cpu.flags.bits) h
row_formed m Cld h = set_formed m (clear_flag 0x400 m.cpu.flags.bits) h
row_formed m Clac h = set_formed m (clear_flag 0x40000 m.cpu.flags.bits) h
row_formed m Stac h = set_formed m (set_flag 0x40000 m.cpu.flags.bits) h
row_formed m Sti h = record {
  cpu = record { regs = h.regs; flags = bits_formed m.d m.key (set_flag 0x200 m.cpu.flags.bits) };
  store = tt;
}
row_formed m Swapgs h = record { cpu = record { regs = h.regs; flags = h.flags }; store = tt }
row_formed m (ReadGs r) h =
    change m Falls (with_register r (gs_value m.d m.cpu.gs.active) m.cpu) None
    (put m.d m.key r (gs_value m.d m.cpu.gs.active) m.cpu (gs_formed m.d m.key m.cpu.gs.active) (own m h)) tt
row_formed m (WriteGs r) h = record { cpu = record { regs = h.regs; flags = h.flags }; store = tt }
row_formed m Rdmsr h =
    let b = msr_bits m (msr_number m.cpu) in
    let high = with_register rdx (bits_value m.d (upper b)) m.cpu in
    let formed = put m.d m.key rdx (bits_value m.d (upper b)) m.cpu (bits_formed m.d m.key (upper b)) (own m h) in
    change m Falls (with_register rax (bits_value m.d (bits_cut 32 b)) high) None
    (put m.d m.key rax (bits_value m.d (bits_cut 32 b)) high (bits_formed m.d m.key (bits_cut 32 b)) formed) tt
row_formed m Wrmsr h = change m Falls (with_msr m (msr_number m.cpu)) None (msr_formed m (msr_number m.cpu) h) tt
row_formed m (ReadCr3 r) h =
    change m Falls (with_register r (cr3_value m.d m.cpu.map) m.cpu) None
    (put m.d m.key r (cr3_value m.d m.cpu.map) m.cpu (cr3_formed m.d m.key m.cpu.map) (own m h)) tt
row_formed m (WriteCr3 r) h = record { cpu = record { regs = h.regs; flags = h.flags }; store = tt }
row_formed m Sysretq h = change m Returns m.cpu None (own m h) tt
row_formed m Iretq h = change m Returns m.cpu None (own m h) tt

-- ---- the store

at_formed : (d : Description) (key : Key) (slots : List AbsValue) (st : AbsStore) (l : Option Location)
    → IsWellFormed d key st.value
    → All (IsWellFormed d key) slots → All (IsWellFormed d key) (with_store_at d key slots st l)
at_formed d key slots st (Some l) hv h =
    redone_formed d key (stored d key l st.size st.value) 0 slots
    (λ i v hw. stored_formed d key l st.size st.value i v hv hw) h
at_formed d key slots st None hv h = h

put_formed : (d : Description) (key : Key) (slots : List AbsValue) (store : Option AbsStore) → IsStoreFormed d key store
    → All (IsWellFormed d key) slots → All (IsWellFormed d key) (with_store d key slots store)
put_formed d key slots (Some st) hs h = at_formed d key slots st st.at hs h
put_formed d key slots None hs h = h

applied_formed : (d : Description) (key : Key) (s : AbsState) (c : AbsChange) → IsChangeFormed d key c
    → IsStateWellFormed d key s
    → IsStateWellFormed d key (applied d key s c)
applied_formed d key s c hc h =
    record { regs = hc.cpu.regs; flags = hc.cpu.flags; slots = put_formed d key s.slots c.store hc.store h.slots }

-- ---- the call of a handler

tame_formed : (d : Description) (key : Key) (v : AbsValue) → IsWellFormed d key v → IsWellFormed d key (tame v)
tame_formed d key v h = value_if d key (is_edited_sym v.sym) (plain v) v (plain_formed d key v h) h

tame_each : (d : Description) (key : Key) (xs : List AbsValue) → All (IsWellFormed d key) xs
    → All (IsWellFormed d key) (map tame xs)
tame_each d key [] h = All-nil (IsWellFormed d key)
tame_each d key (v ∷ vs) h =
    All-cons (IsWellFormed d key) (tame v) (map tame vs) (tame_formed d key v (All-head (IsWellFormed d key) v vs h))
    (tame_each d key vs (All-tail (IsWellFormed d key) v vs h))

nothing_left : (b : KnownBits) → bits_single (bits_joined b nothing_known) ≡ None
nothing_left b =
    let z : bit_and b.zeros 0 ≡ 0 = omega (arith, and_le_r b.zeros 0) in
    let o : bit_and b.ones 0 ≡ 0 = omega (arith, and_le_r b.ones 0) in
    λ i. bits_single (record { zeros = z i; ones = o i })

by_formed : (d : Description) (key : Key) (w : Option Location) (l : Location) (old : AbsValue) → IsWellFormed d key old
    → IsWellFormed d key (edited_by w l old)
by_formed d key w l old h =
    let met = meets_word l 8 w || (meets_word (moved_up l 16) 8 w || meets_word (moved_up l 24) 8 w) in
    let rest = cond met value_top (tame old) in
    let third = cond (is_just (moved_up l 24) 8 w) (value_joined old edited_rsp) rest in
    let second = cond (is_just (moved_up l 16) 8 w) (value_joined old edited_flags) third in
    let rip = joined_formed d key old edited_rip 16 refl (λ e. absurd (omega (arith, e))) h in
    let flags = joined_formed d key old edited_flags 17 refl (λ e. absurd (omega (arith, e))) h in
    let rsp = joined_formed d key old edited_rsp 4 refl (λ e. nothing_left old.bits) h in
    value_if d key (is_just l 8 w) (value_joined old edited_rip) second rip
    (value_if d key (is_just (moved_up l 16) 8 w) (value_joined old edited_flags) third flags
    (value_if d key (is_just (moved_up l 24) 8 w) (value_joined old edited_rsp) rest rsp
    (value_if d key met value_top (tame old) (top_formed d key) (tame_formed d key old h))))

edits_formed : (d : Description) (key : Key) (frame : Option ℕ) (l : Location) (s : AbsState)
    → IsStateWellFormed d key s → IsStateWellFormed d key (with_edits d key frame l s)
edits_formed d key None l s h = h
edits_formed d key (Some f) l s h = record {
  regs = tame_each d key s.regs h.regs;
  flags = tame_formed d key s.flags h.flags;
  slots =
      redone_formed d key (edited d key (moved_up l f)) 0 s.slots (λ i v hv. by_formed d key (word_of d key i)
      (moved_up l f) v hv) h.slots;
}

used_formed : (d : Description) (key : Key) (l : Location) (depth i : ℕ) (old : AbsValue) → IsWellFormed d key old
    → IsWellFormed d key (used d key l depth i old)
used_formed d key l depth i old h =
    value_if d key (hits d key (location_stack d key (Some l)) (moved_down l depth) depth i) value_top old
    (top_formed d key) h

at_call : (d : Description) (key : Key) (handler : Handler) (s : AbsState) (l : Option Location)
    → IsStateWellFormed d key s → IsStateWellFormed d key (called_at d key handler s l)
at_call d key handler s (Some l) h =
    let after : AbsState = record s { slots = redone (used d key l handler.stack) 0 s.slots } in
    edits_formed d key (frame_of key handler) l after
    (record {
      regs = h.regs;
      flags = h.flags;
      slots = redone_formed d key (used d key l handler.stack) 0 s.slots
          (λ i v hv. used_formed d key l handler.stack i v hv) h.slots;
    })
at_call d key handler s None h = h

entered_formed : (d : Description) (key : Key) (s : AbsState) (handler : Option Handler) → IsStateWellFormed d key s
    → IsStateWellFormed d key (entered d key s handler)
entered_formed d key s (Some handler) h = at_call d key handler s (location_of key (get_or s.regs 4 value_top)) h
entered_formed d key s None h = h

call_formed : (d : Description) (key : Key) (s : AbsState) (succ : Succ) → IsStateWellFormed d key s
    → IsStateWellFormed d key (with_call d key s succ)
call_formed d key s (Calls n) h = entered_formed d key s (slice_get d.handlers n) h
call_formed d key s Falls h = h
call_formed d key s (Jumps t) h = h
call_formed d key s (Branches t) h = h
call_formed d key s Returns h = h

-- ---- the step

answer_formed : (d : Description) (key : Key) (s : AbsState) (c : AbsChange) (r : Result (Unit {0}) Condition)
    (succ : Succ) (after : AbsState)
    → IsStateWellFormed d key (with_call d key (applied d key s c) c.succ) → answer d key s c r ≡ Ok (succ, after)
    → IsStateWellFormed d key after
answer_formed d key s c (Ok u) succ after h e =
    let both : (c.succ, with_call d key (applied d key s c) c.succ) ≡ (succ, after) =
    ok_is (c.succ, with_call d key (applied d key s c) c.succ) (succ, after) e in
    subst (IsStateWellFormed d key) (ap (λ (p : Succ × AbsState). p.1) both) h
answer_formed d key s c (Err f) succ after h e = absurd cc

pub step_formed : (d : Description) (key : Key) (s : AbsState) (insn : Insn) (next : ℕ) (succ : Succ) (after : AbsState)
    → IsStateWellFormed d key s → abs_step d key s insn next ≡ Ok (succ, after) → IsStateWellFormed d key after
step_formed d key s insn next succ after h e =
    let m : AbsMoment = moment_of d key s next in
    let c : AbsChange = abs_row m insn in
    let hm : IsMomentFormed m = record { regs = h.regs; flags = h.flags; slots = h.slots } in
    let done = applied_formed d key s c (row_formed m insn hm) h in
    answer_formed d key s c (conditions m s insn c) succ after (call_formed d key (applied d key s c) c.succ done) e

-- the same of an answer that is the step's
pub steps_formed : (d : Description) (key : Key) (s : AbsState) (insn : Insn) (next : ℕ) (r : Result Succ Condition)
    (old new : Scratch)
    → Steps r old new (abs_step d key s insn next) → IsStateWellFormed d key s
    → IfOk r (λ succ. IsStateWellFormed d key new.out)
steps_formed d key s insn next (Ok succ) old new is h = step_formed d key s insn next succ new.out h is.0
steps_formed d key s insn next (Err e) old new is h = tt

-- ---- the end of a handler

left_formed : (d : Description) (key : Key) (handler : Handler) (s : AbsState) → IsStateWellFormed d key s
    → IsStateWellFormed d key (left d key handler s)
left_formed d key handler s h =
    let f : AbsValue → Type 0 = IsWellFormed d key in
    let any = top_formed d key in
    let own : (i : ℕ) → IsWellFormed d key (get_or s.regs i value_top) = λ i. each_read d key s.regs i h.regs in
    let rsp = shifted_formed d key (get_or s.regs 4 value_top) (pos 8) (own 4) in
    record {
      regs =
          All-from_recursion f (left_registers d key s.regs) (
            any,
            (
              any,
              (any, (own 3, (rsp, (own 5, (any, (any, (any, (any, (any, (any, (own 12, (own 13, (own 14, (own 15, tt)))))))))))))),
            ),
          );
      flags = bits_formed d key (left_flags s.flags.bits handler.after_if);
      slots = h.slots;
    }

left_if_formed : (d : Description) (key : Key) (handler : Handler) (s : AbsState) (returns : Bool)
    → IsStateWellFormed d key s
    → IfSome (cond returns (Some (left d key handler s)) None) (IsStateWellFormed d key)
left_if_formed d key handler s true h = left_formed d key handler s h
left_if_formed d key handler s false h = tt

left_of_formed : (d : Description) (key : Key) (s : AbsState) (handler : Option Handler) → IsStateWellFormed d key s
    → IfSome (left_of d key s handler) (IsStateWellFormed d key)
left_of_formed d key s (Some handler) h = left_if_formed d key handler s handler.returns h
left_of_formed d key s None h = tt

pub after_formed : (d : Description) (key : Key) (s : AbsState) (insn : Insn) → IsStateWellFormed d key s
    → IfSome (after_handler d key s insn) (IsStateWellFormed d key)
after_formed d key s (Call target) h = left_of_formed d key s (called_handler d (handler_of d.handlers target)) h
after_formed d key s _ h = tt
