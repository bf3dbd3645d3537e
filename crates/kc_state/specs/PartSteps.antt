-- Changes of slots part by part: a part is the eight slots from a multiple of eight on. The slots from 40 on are four
-- blocks of 64, which are eight parts each. Machinery of the walk over them.
use Rattle.std.specs.Prelude.{◌≡◌, ℕ, ◌+◌, ◌*◌, ◌^◌, ◌<◌, ◌≤◌, Bool, false, ◌&&◌, List, ◌++◌, take, drop, Option, Some, None}
use Rattle.std.specs.Int.{w64, cast_unsigned}
use Rattle.kc_frames.specs.Slots.{redone}
use Rattle.kc_regions.specs.Description.{Description}
use Rattle.kc_value.specs.AbsValue.{AbsValue}
use Rattle.kc_state.specs.Memory.{loaded_from, is_base_slot, is_same_stack, is_marked_slot, meets_word, hits}
use Rattle.kc_state.specs.Places.{below_address, word_of}
use Rattle.kc_state.specs.Shift.{has_no_base}
use Rattle.kc_state.specs.declared.key.Key.{Key}
use Rattle.kc_state.specs.declared.location.Location.{Location}
use Rattle.kc_state.specs.declared.location.Location.TheVariants.{Number, Relative}

-- the slots before i as they are, and the change of those from i on
abbrev pub changed_from : (ℕ → AbsValue → AbsValue) → ℕ → List AbsValue → List AbsValue
changed_from f i slots = take i slots ++ redone f i (drop i slots)

-- f leaves each of the n slots from this one on as it is
abbrev pub StaysFrom : (ℕ → AbsValue → AbsValue) → ℕ → ℕ → Type 0
StaysFrom f from n = (i : ℕ) (old : AbsValue) → from ≤ i → i < from + n → f i old ≡ old

-- f leaves each slot of the part as it is
abbrev pub Stays : (ℕ → AbsValue → AbsValue) → ℕ → Type 0
Stays f part = StaysFrom f (8 * part) 8

-- the size bytes at l meet no word of the n slots from this one on
abbrev pub IsApart : Description → Key → Location → ℕ → ℕ → ℕ → Type 0
IsApart d key l size from n = (i : ℕ) → from ≤ i → i < from + n → meets_word l size (word_of d key i) ≡ false

-- none of the n slots from this one on is hit
abbrev pub IsMissedFrom : Description → Key → Option ℕ → Location → ℕ → ℕ → ℕ → Type 0
IsMissedFrom d key stack l size from n = (i : ℕ) → from ≤ i → i < from + n → hits d key stack l size i ≡ false

-- no slot of the part is hit
abbrev pub IsMissed : Description → Key → Option ℕ → Location → ℕ → ℕ → Type 0
IsMissed d key stack l size part = IsMissedFrom d key stack l size (8 * part) 8

-- what a change at l may change in slot i by the stacks alone, wherever its word lies
abbrev pub hits_stack : Description → Key → Option ℕ → Location → ℕ → Bool
hits_stack d key stack (Number a) i = has_no_base key.base && (is_same_stack stack key.stack && is_base_slot i)
hits_stack d key stack (Relative k) i = is_marked_slot d key.stack i

-- the size bytes at a have none in common with the n bytes at b, both modulo 2^64
pub record AreApart (a size b n : ℕ) : Type 0 where
  pub fits : a < 2 ^ 64
  pub above : n ≤ below_address a b
  pub below : size ≤ below_address b a

-- the same of locations; those of two kinds have none in common
abbrev pub IsApartFrom : Location → ℕ → Option Location → ℕ → Type 0
IsApartFrom (Number a) size (Some (Number b)) n = AreApart a size b n
IsApartFrom (Relative k) size (Some (Relative j)) n = AreApart (cast_unsigned w64 k) size (cast_unsigned w64 j) n
IsApartFrom (Number a) size (Some (Relative j)) n = Unit {0}
IsApartFrom (Relative k) size (Some (Number b)) n = Unit {0}
IsApartFrom l size None n = Unit {0}

-- What the slots from one up to another give for the size bytes at l: a value, where the first of them decides whose
-- word holds the bytes, and else the slots after these decide.
abbrev pub IsLoaded : Description → Key → Location → ℕ → ℕ → ℕ → List AbsValue → Option AbsValue → Type 0
IsLoaded d key l size from to slots (Some v) = v ≡ loaded_from d key l size from (drop from slots)
IsLoaded d key l size from to slots None =
    loaded_from d key l size from (drop from slots) ≡ loaded_from d key l size to (drop to slots)
