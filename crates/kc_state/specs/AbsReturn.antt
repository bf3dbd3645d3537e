-- What is known after the return of an event, by the summary of the context that ran: this project's own.
use Rattle.std.specs.Prelude.{ℕ, suc, zero, ◌+◌, Bool, false, cond, not, ◌&&◌, ◌||◌, ◌==◌, nat_le, nat_lt, if◌then◌else◌, get_or, Option, Some, None, ℤ, int_le}
use Rattle.std.specs.Int.{bit_at}
use Rattle.kc_bits.specs.Bits.{word}
use Rattle.kc_frames.specs.ClobberSets.{ClobberSets}
use Rattle.kc_frames.specs.Slots.{redone}
use Rattle.kc_regions.specs.Description.{Description}
use Rattle.kc_regions.specs.Region.{stack_of}
use Rattle.kc_value.specs.AbsValue.{AbsValue}
use Rattle.kc_value.specs.Value.{value_top}
use Rattle.kc_state.specs.Location.{location_of}
use Rattle.kc_state.specs.Memory.{is_same_stack}
use Rattle.kc_state.specs.Places.{word_of}
use Rattle.kc_state.specs.declared.key.Key.{Key}
use Rattle.kc_state.specs.declared.location.Location.{Location}
use Rattle.kc_state.specs.declared.location.Location.TheVariants.{Number, Relative}
use Rattle.kc_state.specs.declared.state.AbsState.{AbsState}
use Rattle.kc_state.specs.declared.summary.Summary.{Summary}

-- the stack may have been written
abbrev pub is_clobbered : ClobberSets → Option ℕ → Bool
is_clobbered c (Some s) = bit_at c.stacks s == 1
is_clobbered c None = false

-- The address a, which lies in this stack, is protected: it is at or above RSP, a number in the same stack.
abbrev pub is_protected : Description → Option Location → ℕ → Option ℕ → Bool
is_protected d (Some (Number c)) a stack = nat_le c a && is_same_stack (stack_of d.regions c) stack
is_protected d (Some (Relative k)) a stack = false
is_protected d None a stack = false

-- the offset j is protected: RSP is an offset at or below it
abbrev pub is_offset_protected : Option Location → ℤ → Bool
is_offset_protected (Some (Relative k)) j = int_le k j
is_offset_protected (Some (Number c)) j = false
is_offset_protected None j = false

-- One of the n bytes from `at` on, which belong to the word at a, lies in a stack that may have been written, and there
-- the word isn't protected.
unfoldable pub loses_bytes : Description → Option Location → ClobberSets → ℕ → ℕ → ℕ → Bool
loses_bytes d rsp c a at zero = false
loses_bytes d rsp c a at (suc n) =
    (is_clobbered c (stack_of d.regions at) && not (is_protected d rsp a (stack_of d.regions at)))
    || loses_bytes d rsp c a (word (at + 1)) n

-- the word of a base or marked slot may have changed; a slot without a word doesn't
abbrev pub loses_word : Description → Key → Option Location → ClobberSets → Option Location → Bool
loses_word d key rsp c (Some (Number a)) = loses_bytes d rsp c a a 8
loses_word d key rsp c (Some (Relative j)) = is_clobbered c key.stack && not (is_offset_protected rsp j)
loses_word d key rsp c None = false

-- slot i may have changed: a word of the TSS or of the configuration that is in the clobber, or the word of a base or
-- marked slot
abbrev pub loses : Description → Key → Option Location → ClobberSets → ℕ → Bool
loses d key rsp c i = if nat_lt i 40 then bit_at c.words i == 1 else loses_word d key rsp c (word_of d key i)

-- what slot i becomes
abbrev pub kept : Description → Key → Option Location → ClobberSets → ℕ → AbsValue → AbsValue
kept d key rsp c i old = cond (loses d key rsp c i) value_top old

-- the state after the return: the latches are the summary's, and what may have changed is the top
abbrev pub returned : Description → Key → AbsState → Summary → AbsState
returned d key s summary = record s {
  latches = summary.latches;
  slots = redone (kept d key (location_of key (get_or s.regs 4 value_top)) summary.clobber) 0 s.slots;
}
