-- What a handler's call leaves of the state at its body, and what is known after its end, this project's own.
use Rattle.std.specs.Prelude.{ℕ, ◌+◌, ◌-◌, ◌^◌, Bool, false, cond, ◌||◌, ◌==◌, if◌then◌else◌, List, [], ◌∷◌, map, get_or, Option, Some, None, slice_get, bit_and, bit_or, pos}
use Rattle.std.specs.Int.{w64, int_wrapping_add, int_wrapping_sub}
use Rattle.kc_bits.specs.KnownBits.{KnownBits}
use Rattle.kc_bits.specs.Bits.{flipped, nothing_known, word}
use Rattle.kc_frames.specs.Slots.{redone}
use Rattle.kc_insn.specs.declared.insn.Insn.{Insn}
use Rattle.kc_insn.specs.declared.insn.Insn.TheVariants.{Call}
use Rattle.kc_regions.specs.Description.{Description}
use Rattle.kc_regions.specs.Lookup.{handler_of}
use Rattle.kc_regions.specs.declared.entry.AfterIf.{AfterIf}
use Rattle.kc_regions.specs.declared.entry.AfterIf.TheVariants.{Keep, On, Off, Any}
use Rattle.kc_regions.specs.declared.entry.Handler.{Handler}
use Rattle.kc_value.specs.AbsValue.{AbsValue}
use Rattle.kc_value.specs.Made.{plain}
use Rattle.kc_value.specs.Value.{value_top, value_joined, all_places}
use Rattle.kc_value.specs.declared.symbol.Sym.{Sym}
use Rattle.kc_value.specs.declared.symbol.Sym.TheVariants.{Entry}
use Rattle.kc_state.specs.Location.{location_of}
use Rattle.kc_state.specs.Memory.{hits, is_just, meets_word}
use Rattle.kc_state.specs.Operand.{bits_value}
use Rattle.kc_state.specs.Places.{below_address, location_stack, word_of}
use Rattle.kc_state.specs.Shift.{shifted}
use Rattle.kc_state.specs.declared.key.Key.{Key}
use Rattle.kc_state.specs.declared.location.Location.{Location}
use Rattle.kc_state.specs.declared.location.Location.TheVariants.{Number, Relative}
use Rattle.kc_state.specs.declared.state.AbsState.{AbsState}

-- ---- the handler's stack

-- offsets wrap as signed words, as addresses do as unsigned ones: a location that wrapped is never permitted
abbrev pub moved_down : Location → ℕ → Location
moved_down (Number a) n = Number (below_address a n)
moved_down (Relative k) n = Relative (int_wrapping_sub w64 k (pos n))

abbrev pub moved_up : Location → ℕ → Location
moved_up (Number a) n = Number (word (a + n))
moved_up (Relative k) n = Relative (int_wrapping_add w64 k (pos n))

-- a slot that the depth bytes below l, which is RSP, may change becomes the top
abbrev pub used : Description → Key → Location → ℕ → ℕ → AbsValue → AbsValue
used d key l depth i old = cond (hits d key (location_stack d key (Some l)) (moved_down l depth) depth i) value_top old

-- ---- edits of the saved RIP, RFLAGS and RSP

-- what an edited word is known to be: RIP below 2^47; RFLAGS in the mask with IF and bit 1; RSP in no stack
abbrev pub edited_rip : AbsValue
edited_rip = record { sym = Entry 16; bits = record { zeros = 2 ^ 64 - 2 ^ 47; ones = 0 }; stacks = all_places }

abbrev pub edited_flags : AbsValue
edited_flags = record { sym = Entry 17; bits = record { zeros = flipped 0x240FD7; ones = 0x202 }; stacks = all_places }

abbrev pub edited_rsp : AbsValue
edited_rsp = record { sym = Entry 4; bits = nothing_known; stacks = 2 ^ 16 }

abbrev pub is_edited_word : ℕ → Bool
is_edited_word w = (w == 16) || ((w == 17) || (w == 4))

abbrev pub is_edited_sym : Sym → Bool
is_edited_sym (Entry w) = is_edited_word w
is_edited_sym _ = false

-- the value without its symbol, where that is a word which a handler may edit
abbrev pub tame : AbsValue → AbsValue
tame v = cond (is_edited_sym v.sym) (plain v) v

-- what slot i becomes, where the three words begin at l: joined with the edit of the word that it is, the top where it
-- is hit, and else without an edited symbol
abbrev pub edited_by : Option Location → Location → AbsValue → AbsValue
edited_by w l old =
    if is_just l 8 w then value_joined old edited_rip else
    if is_just (moved_up l 16) 8 w then value_joined old edited_flags else
    if is_just (moved_up l 24) 8 w then value_joined old edited_rsp else
    if meets_word l 8 w || (meets_word (moved_up l 16) 8 w || meets_word (moved_up l 24) 8 w)
    then value_top
    else tame old

abbrev pub edited : Description → Key → Location → ℕ → AbsValue → AbsValue
edited d key l i old = edited_by (word_of d key i) l old

abbrev pub with_edits : Description → Key → Option ℕ → Location → AbsState → AbsState
with_edits d key None l s = s
with_edits d key (Some f) l s = record s {
  regs = map tame s.regs;
  flags = tame s.flags;
  slots = redone (edited d key (moved_up l f)) 0 s.slots;
}

-- ---- the call

-- the handler may edit the frame of a user's context alone
abbrev pub frame_of : Key → Handler → Option ℕ
frame_of key h = cond key.kernel None h.frame

abbrev pub called_at : Description → Key → Handler → AbsState → Option Location → AbsState
called_at d key h s (Some l) =
    with_edits d key (frame_of key h) l (record s { slots = redone (used d key l h.stack) 0 s.slots })
called_at d key h s None = s

-- what the call of the handler changes in the state after the push
abbrev pub called : Description → Key → Handler → AbsState → AbsState
called d key h s = called_at d key h s (location_of key (get_or s.regs 4 value_top))

-- ---- the end

abbrev pub left_if : KnownBits → AfterIf → KnownBits
left_if b Keep = record { zeros = bit_and b.zeros 0x200; ones = bit_and b.ones 0x200 }
left_if b On = record { zeros = 0; ones = 0x200 }
left_if b Off = record { zeros = 0x200; ones = 0 }
left_if b Any = nothing_known

-- the mask, bit 1, DF clear, and IF as the handler says
abbrev pub left_flags : KnownBits → AfterIf → KnownBits
left_flags b after_if = record {
  zeros = bit_or (bit_or (flipped 0x240FD7) 0x400) (left_if b after_if).zeros;
  ones = bit_or 2 (left_if b after_if).ones;
}

-- RBX, RBP and R12 to R15 stay, RSP is as before the push, and of the other registers nothing is known
abbrev pub left_registers : Description → Key → List AbsValue → List AbsValue
left_registers d key regs =
    value_top ∷ value_top ∷ value_top ∷ get_or regs 3 value_top ∷ shifted d key (get_or regs 4 value_top) (pos 8)
    ∷ get_or regs 5 value_top
    ∷ value_top ∷ value_top ∷ value_top ∷ value_top ∷ value_top ∷ value_top
    ∷ get_or regs 12 value_top ∷ get_or regs 13 value_top ∷ get_or regs 14 value_top ∷ get_or regs 15 value_top ∷ []

abbrev pub left : Description → Key → Handler → AbsState → AbsState
left d key h s =
    record s { regs = left_registers d key s.regs; flags = bits_value d (left_flags s.flags.bits h.after_if) }

abbrev pub left_of : Description → Key → AbsState → Option Handler → Option AbsState
left_of d key s (Some h) = cond h.returns (Some (left d key h s)) None
left_of d key s None = None

abbrev pub called_handler : Description → Option ℕ → Option Handler
called_handler d (Some h) = slice_get d.handlers h
called_handler d None = None

-- the state after the end of the handler that the instruction calls, if it calls one that returns
abbrev pub after_handler : Description → Key → AbsState → Insn → Option AbsState
after_handler d key s (Call target) = left_of d key s (called_handler d (handler_of d.handlers target))
after_handler d key s _ = None
