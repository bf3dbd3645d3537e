-- What is known after the delivery of a vector, in the order of the delivery itself: SDM vol. 3A, "64-Bit Mode Stack
-- Frame", "Stack Switching in IA-32e Mode", "Interrupt Stack Table", "Flag Usage By Exception- or Interrupt-Handler
-- Procedure", and vol. 2B, "SYSCALL". Floors, keys and which frame is permitted are this project's own.
use Rattle.std.specs.Prelude.{ℕ, ◌+◌, ◌-◌, ◌*◌, ◌%◌, ◌^◌, Bool, true, false, cond, not, ◌&&◌, ◌||◌, ◌==◌, nat_le, if◌then◌else◌, List, [], ◌∷◌, map, replicate, get_or, slice_set, Option, Some, None, is_some, bit_or, pos, neg_ℤ}
use Rattle.std.specs.Int.{bit_at}
use Rattle.kc_bits.specs.KnownBits.{KnownBits}
use Rattle.kc_bits.specs.Bits.{word, flipped, all_of, bits_and, bits_joined, bits_prefix, bits_single, nothing_known}
use Rattle.kc_frames.specs.Floors.{floor_joined, floor_number, floor_top, none_live}
use Rattle.kc_frames.specs.Slots.{redone}
use Rattle.kc_frames.specs.declared.floor.Floor.{Floor}
use Rattle.kc_frames.specs.declared.floor.Floor.TheVariants as floor
use Rattle.kc_frames.specs.declared.floors.Floors.{Floors}
use Rattle.kc_insn.specs.declared.insn.Insn.{Insn}
use Rattle.kc_regions.specs.Description.{Description}
use Rattle.kc_regions.specs.Lookup.{gate_of, tss_word}
use Rattle.kc_regions.specs.Permission.{passes, user_cs64, user_ss}
use Rattle.kc_regions.specs.declared.entry.Gate.{Gate}
use Rattle.kc_regions.specs.declared.entry.Handler.{Handler}
use Rattle.kc_regions.specs.declared.region.Region.{Region}
use Rattle.kc_regions.specs.declared.touch.Touch.TheVariants.{Read, Write}
use Rattle.kc_space.specs.declared.latches.Latches.{Latches}
use Rattle.kc_space.specs.declared.map.MapState.{MapState}
use Rattle.kc_space.specs.declared.map.MapState.TheVariants as map_state
use Rattle.kc_space.specs.declared.tri.Tri.TheVariants.{No, Yes}
use Rattle.kc_space.specs.declared.who.Who.TheVariants as who
use Rattle.kc_value.specs.AbsValue.{AbsValue}
use Rattle.kc_value.specs.Made.{of_bits, plain}
use Rattle.kc_value.specs.Place.{place_bit}
use Rattle.kc_value.specs.Value.{value_top, all_places}
use Rattle.kc_value.specs.declared.symbol.Sym.TheVariants.{Base, Entry}
use Rattle.kc_state.specs.AbsEffect.{moment_of}
use Rattle.kc_state.specs.AbsEvents.{nmi, machine_check, handler_called_by, lists}
use Rattle.kc_state.specs.Access.{may_bytes, is_floor_from, is_stack_present}
use Rattle.kc_state.specs.Calls.{edited_rip, edited_flags, edited_rsp}
use Rattle.kc_state.specs.Conditions.{clear_at, is_exact, stack_region}
use Rattle.kc_state.specs.Location.{location_of}
use Rattle.kc_state.specs.Operand.{number_value}
use Rattle.kc_state.specs.Places.{below_address, home_of, is_interrupted_rsp, value_stack}
use Rattle.kc_state.specs.declared.interrupted.Interrupted.{Interrupted}
use Rattle.kc_state.specs.declared.key.Key.{Key}
use Rattle.kc_state.specs.declared.location.Location.{Location}
use Rattle.kc_state.specs.declared.location.Location.TheVariants.{Number, Relative}
use Rattle.kc_state.specs.declared.site.Site.{Site}
use Rattle.kc_state.specs.declared.state.AbsState.{AbsState}
use Rattle.kc_state.specs.declared.user.UserState.{UserState}

-- ---- the stack

-- Which word of the TSS holds the new RSP: that of the gate's IST, 1 to 7; without an IST RSP0, 0, where user code is
-- interrupted, and none where kernel code is, since the stack stays.
abbrev pub without_ist : Bool → Option ℕ
without_ist kernel = cond kernel None (Some 0)

abbrev pub stack_taken : ℕ → Bool → Option ℕ
stack_taken ist kernel = if ist == 0 then without_ist kernel else Some ist

abbrev pub number_of : Option Location → Option ℕ
number_of (Some (Number a)) = Some a
number_of (Some (Relative k)) = None
number_of None = None

-- RSP before it is aligned, where it is a constant: the TSS word that is taken, or RSP's own number
abbrev pub chosen_rsp : List AbsValue → Option Location → Option ℕ → Option ℕ
chosen_rsp slots rsp None = number_of rsp
chosen_rsp slots rsp (Some n) = bits_single (get_or slots n value_top).bits

-- RSP aligned down to 16, from which the frame is pushed
abbrev pub aligned : ℕ → ℕ
aligned n = n - n % 16

-- the vectors whose deliveries push an error code: SDM vol. 3A, "Error Code"
abbrev pub pushes_code : ℕ → Bool
pushes_code v = (nat_le 10 v && nat_le v 14) || (v == 17 || v == 21)

-- how many bytes are pushed: SS, RSP, RFLAGS, CS and RIP, and an error code where the vector has one
abbrev pub frame_size : ℕ → ℕ
frame_size v = cond (pushes_code v) 48 40

-- ---- the floors

abbrev pub floor_at : Floors → ℕ → Floor
floor_at f s = get_or f.at s floor_top

abbrev pub with_floor : Floors → Option ℕ → Floor → Floors
with_floor f (Some s) x = record { at = slice_set f.at s x }
with_floor f None x = f

-- the base of the interrupted context as a number, or 0 where it is none
abbrev pub numbered : Option ℕ → Floor → Floor
numbered base (floor.At a) = floor.At a
numbered (Some base) floor.Base = floor.At base
numbered None floor.Base = floor.At 0

-- The interrupted context has live bytes from its RSP up: from a number less the stack that its handler may use. Of an
-- offset nothing is known.
abbrev pub live_from : ℕ → Option Location → ℕ
live_from depth (Some (Number c)) = c - depth
live_from depth (Some (Relative k)) = 0
live_from depth None = 0

-- the stack's floor, lowered to n
abbrev pub lowered : Floors → Option ℕ → ℕ → Floors
lowered f (Some s) n = with_floor f (Some s) (floor_joined (floor_at f s) (floor.At n))
lowered f None n = f

-- the floors of all that is interrupted: where the RSP is the one that the context itself interrupted, no byte is newly
-- live
abbrev pub interrupted_floors : Floors → Option ℕ → Bool → Option ℕ → ℕ → Floors
interrupted_floors f base stays stack n =
    let g : Floors = record { at = map (numbered base) f.at } in
    cond stays g (lowered g stack n)

-- ---- the interrupted context

abbrev pub entry_of : ℕ → KnownBits → AbsValue
entry_of w bits = record { sym = Entry w; bits = bits; stacks = all_places }

-- register w of the context; a handler's registers aren't known
abbrev pub own_register : Bool → ℕ → AbsValue → AbsValue
own_register inside w v = cond inside (entry_of w nothing_known) (record v { sym = Entry w })

-- RSP lies in this stack, and its bits in which all the stack's addresses agree are known
abbrev pub in_region : Option ℕ → Option Region → AbsValue
in_region stack (Some r) = record { sym = Entry 4; bits = bits_prefix r.span; stacks = 2 ^ place_bit stack }
in_region stack None = record { sym = Entry 4; bits = nothing_known; stacks = 2 ^ place_bit stack }

abbrev pub is_relative : Option Location → Bool
is_relative (Some (Relative k)) = true
is_relative (Some (Number a)) = false
is_relative None = false

-- the saved RSP
abbrev pub own_rsp : Description → Bool → Option ℕ → AbsValue → AbsValue
own_rsp d true stack v = in_region stack (stack_region d stack)
own_rsp d false stack v = record v { sym = Entry 4 }

-- what is known of a handler's RFLAGS: the mask and bit 1, and IF where it was clear and the handler keeps it so
abbrev pub handler_flags : KnownBits → Bool → KnownBits
handler_flags b irq =
    record { zeros = bit_or (flipped 0x240FD7) (cond (not irq && bit_at b.zeros 9 == 1) 0x200 0); ones = 2 }

abbrev pub own_flags : Bool → Bool → KnownBits → KnownBits
own_flags inside irq b = cond inside (handler_flags b irq) b

abbrev pub own_rip : Bool → ℕ → KnownBits
own_rip inside at = cond inside nothing_known (all_of at)

-- SS, RSP, RFLAGS, CS and RIP
abbrev pub frame_words : KnownBits → AbsValue → KnownBits → KnownBits → KnownBits → List AbsValue
frame_words ss rsp flags cs rip =
    entry_of 19 ss ∷ rsp ∷ entry_of 17 flags ∷ entry_of 18 cs ∷ entry_of 16 rip ∷ []

abbrev pub depth_of : Bool → Option Handler → ℕ
depth_of true (Some h) = h.stack
depth_of true None = 0
depth_of false h = 0

-- kernel code, where inside the handler h runs; its RSP is that of the call
abbrev pub interrupted_at : Description → Key → Site → AbsState → Option Handler → Interrupted
interrupted_at d key site s h =
    let v : AbsValue = get_or s.regs 4 value_top in
    let rsp : Option Location = location_of key v in
    let stack : Option ℕ = value_stack d key v in
    record {
      kernel = true;
      gs = s.gs;
      map = s.map;
      latches = s.latches;
      floors = interrupted_floors s.floors key.base (not site.inside && is_interrupted_rsp v.sym) stack
          (live_from (depth_of site.inside h) rsp);
      stack = stack;
      regs = redone (own_register site.inside) 0 s.regs;
      frame = frame_words nothing_known (own_rsp d (site.inside || is_relative rsp) stack v)
          (own_flags site.inside (lists (λ r. r.irq) h) s.flags.bits) (all_of d.cpu.star_kernel)
          (own_rip site.inside site.at);
    }

-- of the user's registers nothing is known, but that RSP lies in no stack
abbrev pub user_registers : List AbsValue
user_registers =
    entry_of 0 nothing_known ∷ entry_of 1 nothing_known ∷ entry_of 2 nothing_known ∷ entry_of 3 nothing_known
    ∷ edited_rsp ∷ entry_of 5 nothing_known ∷ entry_of 6 nothing_known ∷ entry_of 7 nothing_known
    ∷ entry_of 8 nothing_known ∷ entry_of 9 nothing_known ∷ entry_of 10 nothing_known ∷ entry_of 11 nothing_known
    ∷ entry_of 12 nothing_known ∷ entry_of 13 nothing_known ∷ entry_of 14 nothing_known
    ∷ entry_of 15 nothing_known ∷ []

abbrev pub user_cs : Description → Option ℕ → KnownBits
user_cs d (Some cs32) = bits_joined (all_of (user_cs64 d.cpu)) (all_of cs32)
user_cs d None = all_of (user_cs64 d.cpu)

abbrev pub user_latches : UserState → Latches
user_latches u = record { nmi_blocked = u.nmi_blocked; shadow = No; mcip = u.mcip }

-- an admitted user: no byte of a stack is live, and RSP lies in none
abbrev pub interrupted_user : Description → UserState → Interrupted
interrupted_user d u = record {
  kernel = false;
  gs = record { active = who.User; inactive = who.Kernel };
  map = map_state.User;
  latches = user_latches u;
  floors = record { at = replicate 16 (floor.At none_live) };
  stack = None;
  regs = user_registers;
  frame = frame_words (all_of (user_ss d.cpu)) edited_rsp edited_flags.bits (user_cs d d.cpu.user_cs32)
      edited_rip.bits;
}

-- ---- accesses

abbrev pub may_read_word : Description → MapState → Option ℕ → Bool
may_read_word d map None = true
may_read_word d map (Some n) = may_bytes d map Read (word (tss_word d.cpu.tss n)) 8

-- the gate, the descriptor of the kernel's CS, and the word of the TSS where one is taken, may be read
abbrev pub may_touch : Description → MapState → ℕ → Option ℕ → Bool
may_touch d map v taken =
    may_bytes d map Read (word (d.cpu.idt + 16 * v)) 16
    && (may_bytes d map Read (word (d.cpu.gdt + d.cpu.star_kernel)) 8 && may_read_word d map taken)

-- the n bytes below the base lie in the region
abbrev pub holds_below : ℕ → ℕ → Region → Bool
holds_below base n r = nat_le (r.span.from + n) base && nat_le base r.span.to

abbrev pub is_under_floor : Floors → ℕ → Option ℕ → Bool
is_under_floor f base (Some s) = is_floor_from base (floor_number None (floor_at f s))
is_under_floor f base None = false

-- the n bytes below a constant base: they lie in one stack, may be written, and hold no live byte
abbrev pub may_push : Description → MapState → Floors → ℕ → ℕ → Bool
may_push d map f base n =
    let stack : Option ℕ = home_of d (Some base) false None in
    passes (holds_below base n) (stack_region d stack)
    && (may_bytes d map Write (below_address base n) n && is_under_floor f base stack)

-- ---- the state afterwards

-- TF is cleared, and by an interrupt gate IF
abbrev pub cleared_flags : Bool → ℕ
cleared_flags trap = cond trap 0x100 0x300

-- an NMI blocks NMIs, a machine check sets MCIP, and the gap after an STI ends
abbrev pub entered_latches : Latches → ℕ → Latches
entered_latches l v = record {
  nmi_blocked = cond (v == nmi) Yes l.nmi_blocked;
  shadow = No;
  mcip = cond (v == machine_check) Yes l.mcip;
}

-- slots 0 to 39 lose their symbols, those of the frame, from 40 on, have its words, and of the others nothing is known
abbrev pub entered_slot : List AbsValue → ℕ → AbsValue → AbsValue
entered_slot frame i old = cond (not (nat_le 40 i)) (plain old) (get_or frame (i - 40) value_top)

abbrev pub entered : Interrupted → List AbsValue → Gate → AbsValue → Floors → AbsState
entered i slots g rsp floors = record {
  regs = slice_set i.regs 4 rsp;
  flags = of_bits (bits_and (get_or i.frame 2 value_top).bits (all_of (flipped (cleared_flags g.trap))));
  gs = i.gs;
  map = i.map;
  latches = entered_latches i.latches g.vector;
  floors = floors;
  slots = redone (entered_slot i.frame) 0 slots;
}

abbrev pub entered_key : Interrupted → ℕ → Option ℕ → Key
entered_key i v base = record {
  syscall = false;
  vector = v;
  kernel = i.kernel;
  gs = i.gs;
  map = i.map;
  stack = i.stack;
  base = base;
}

-- ---- the whole, where a frame is permitted

-- from a constant base
abbrev pub delivered_from : Description → Interrupted → List AbsValue → Gate → ℕ → Option (Key × AbsState)
delivered_from d i slots g base =
    let n : ℕ = frame_size g.vector in
    if may_touch d i.map g.vector (stack_taken g.ist i.kernel) && may_push d i.map i.floors base n
    then Some (entered_key i g.vector (Some base), entered i slots g (number_value d (below_address base n)) i.floors)
    else None

abbrev pub delivered_at : Description → Interrupted → List AbsValue → Gate → Option ℕ → Option (Key × AbsState)
delivered_at d i slots g (Some chosen) = delivered_from d i slots g (aligned chosen)
delivered_at d i slots g None = None

-- the new RSP on the interrupted stack, whose base isn't a constant
abbrev pub own_frame : Option ℕ → ℕ → AbsValue
own_frame stack n =
    record { sym = Base (neg_ℤ (pos n)); bits = nothing_known; stacks = 2 ^ place_bit stack }

-- on the interrupted stack, where the bytes below RSP are clear
abbrev pub delivered_below : Description → Interrupted → List AbsValue → Gate → Bool → Option (Key × AbsState)
delivered_below d i slots g clear =
    if may_touch d i.map g.vector None && (clear && is_stack_present d i.stack i.map)
    then Some (
      entered_key i g.vector None,
      entered i slots g (own_frame i.stack (frame_size g.vector)) (with_floor i.floors i.stack floor.Base),
    )
    else None

-- Through a gate without an IST the stack stays: where RSP is an offset, or a handler runs, there is no constant base.
abbrev pub delivered : Description → Key → Site → AbsState → Option Handler → Gate → Option (Key × AbsState)
delivered d key site s h g =
    let i : Interrupted = interrupted_at d key site s h in
    let rsp : Option Location = location_of key (get_or s.regs 4 value_top) in
    if (g.ist == 0) && (site.inside || is_relative rsp)
    then delivered_below d i s.slots g (clear_at (moment_of d key s 0) s.floors rsp 0)
    else delivered_at d i s.slots g (chosen_rsp s.slots rsp (stack_taken g.ist true))

abbrev pub by_gate : (Gate → Option (Key × AbsState)) → Option Gate → Option (Key × AbsState)
by_gate f (Some g) = f g
by_gate f None = None

-- The delivery of vector v at a site: the context that is entered, and what is known there. There is none where C4
-- fails of the state, where at an inside site no handler is called, or where the frame or an access isn't permitted.
abbrev pub delivery : Description → Key → Site → AbsState → Insn → ℕ → Option (Key × AbsState)
delivery d key site s insn v =
    let h : Option Handler = handler_called_by d insn in
    if is_exact (moment_of d key s 0) site.inside && (not site.inside || is_some h)
    then by_gate (delivered d key site s h) (gate_of d.gates v)
    else None

-- ---- from user mode

abbrev pub user_delivery : Description → UserState → ℕ → Option (Key × AbsState)
user_delivery d u v =
    by_gate (λ g. delivered_at d (interrupted_user d u) u.slots g (chosen_rsp u.slots None (stack_taken g.ist false)))
    (gate_of d.gates v)

-- SYSCALL saves RIP in RCX and RFLAGS in R11, clears the flags of IA32_FMASK, and pushes nothing.
abbrev pub syscall_state : Description → UserState → AbsState
syscall_state d u =
    let i : Interrupted = interrupted_user d u in
    record {
      regs = slice_set (slice_set i.regs 1 edited_rip) 11 edited_flags;
      flags = of_bits (bits_and edited_flags.bits (all_of (flipped d.cpu.fmask)));
      gs = i.gs;
      map = i.map;
      latches = i.latches;
      floors = i.floors;
      slots = redone (entered_slot []) 0 u.slots;
    }

abbrev pub syscall_key : Description → UserState → Key
syscall_key d u = record (entered_key (interrupted_user d u) 0 None) { syscall = true }

-- an event's vector, or SYSCALL
abbrev pub user_entry : Description → UserState → Option ℕ → Option (Key × AbsState)
user_entry d u (Some v) = user_delivery d u v
user_entry d u None = Some (syscall_key d u, syscall_state d u)
