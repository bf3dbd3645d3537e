-- Loads from and stores into the tracked words, this project's own.
use Rattle.std.specs.Prelude.{ℕ, suc, ◌+◌, ◌-◌, ◌*◌, ◌/◌, ◌^◌, Bool, false, cond, not, ◌&&◌, ◌||◌, ◌==◌, nat_le, nat_lt, List, [], ◌∷◌, Option, Some, None, slice_get}
use Rattle.std.specs.Int.{w64, cast_unsigned}
use Rattle.kc_bits.specs.KnownBits.{KnownBits}
use Rattle.kc_bits.specs.Bits.{bits_cut, nothing_known}
use Rattle.kc_regions.specs.Description.{Description}
use Rattle.kc_regions.specs.Region.{stack_of, marked_of}
use Rattle.kc_regions.specs.declared.region.Region.{Region}
use Rattle.kc_value.specs.AbsValue.{AbsValue}
use Rattle.kc_value.specs.Made.{derived}
use Rattle.kc_value.specs.Value.{value_top}
use Rattle.kc_state.specs.Places.{below_address, location_stack, word_of}
use Rattle.kc_state.specs.Shift.{has_no_base}
use Rattle.kc_state.specs.declared.key.Key.{Key}
use Rattle.kc_state.specs.declared.location.Location.{Location}
use Rattle.kc_state.specs.declared.location.Location.TheVariants.{Number, Relative}

-- how far one location is above another of its kind, modulo 2^64
abbrev pub distance : Location → Location → Option ℕ
distance (Number a) (Number b) = Some (below_address a b)
distance (Relative k) (Relative j) = Some (below_address (cast_unsigned w64 k) (cast_unsigned w64 j))
distance _ _ = None

-- ---- loads

-- where size bytes begin in a word, if they all lie in it
abbrev pub begins_at : ℕ → Option ℕ → Option ℕ
begins_at size (Some off) = cond (nat_le (off + size) 8) (Some off) None
begins_at size None = None

-- where the size bytes at l begin in the word of slot i, if they all lie in it
abbrev pub offset_in : Location → ℕ → Option Location → Option ℕ
offset_in l size (Some w) = begins_at size (distance l w)
offset_in l size None = None

-- the bits from byte off on, moved down
abbrev pub bits_from : KnownBits → ℕ → KnownBits
bits_from b off = record { zeros = b.zeros / 2 ^ (8 * off); ones = b.ones / 2 ^ (8 * off) }

-- size bytes of a value from byte off on: the whole word as it is, else its bits alone, with 0 above them
abbrev pub part_of : Description → ℕ → AbsValue → ℕ → AbsValue
part_of d size v off =
    cond (size == 8) v (derived (stack_of d.regions) (bits_cut (8 * size) (bits_from v.bits off)))

abbrev pub loaded_or : Description → ℕ → AbsValue → AbsValue → Option ℕ → AbsValue
loaded_or d size v rest (Some off) = part_of d size v off
loaded_or d size v rest None = rest

-- by the first of the slots, which are numbered from i, whose word holds the size bytes at l
unfoldable pub loaded_from : Description → Key → Location → ℕ → ℕ → List AbsValue → AbsValue
loaded_from d key l size i [] = derived (stack_of d.regions) (bits_cut (8 * size) nothing_known)
loaded_from d key l size i (v ∷ vs) =
    loaded_or d size v (loaded_from d key l size (suc i) vs) (offset_in l size (word_of d key i))

-- the least slot's whose word holds the size bytes at l; without one nothing is known but 0 above these bytes
abbrev pub loaded : Description → Key → Location → ℕ → List AbsValue → AbsValue
loaded d key l size slots = loaded_from d key l size 0 slots

-- ---- stores

abbrev pub is_zero : Option ℕ → Bool
is_zero (Some n) = n == 0
is_zero None = false

abbrev pub is_below : ℕ → Option ℕ → Bool
is_below n (Some m) = nat_lt m n
is_below n None = false

-- the size bytes at l and the 8 bytes at w have one in common
abbrev pub meets : Location → ℕ → Location → Bool
meets l size w = not (size == 0) && (is_below 8 (distance l w) || is_below size (distance w l))

-- slots 40 to 103 are the words below the base
abbrev pub is_base_slot : ℕ → Bool
is_base_slot i = nat_le 40 i && nat_lt i 104

abbrev pub is_same_stack : Option ℕ → Option ℕ → Bool
is_same_stack (Some s) (Some t) = s == t
is_same_stack _ _ = false

abbrev pub holds_top : Description → Option ℕ → Option Region → Bool
holds_top d stack (Some r) = is_same_stack (stack_of d.regions (below_address r.span.to 1)) stack
holds_top d stack None = false

-- slots 104 to 295 are the words below the tops of the marked stacks; this one's is the stack given
abbrev pub is_marked_slot : Description → Option ℕ → ℕ → Bool
is_marked_slot d stack i = nat_le 104 i && holds_top d stack (slice_get (marked_of d.regions) ((i - 104) / 64))

abbrev pub meets_word : Location → ℕ → Option Location → Bool
meets_word l size (Some w) = meets l size w
meets_word l size None = false

-- What the bytes at l may change in slot i: they meet its word; or l is a number, they belong to the stack of a key
-- without a base, and the slot is one of the base's; or l is an offset, and the slot is one of those below the top of
-- the key's stack.
abbrev pub hits : Description → Key → Option ℕ → Location → ℕ → ℕ → Bool
hits d key stack (Number a) size i =
    meets_word (Number a) size (word_of d key i) ||
    (has_no_base key.base && (is_same_stack stack key.stack && is_base_slot i))
hits d key stack (Relative k) size i = meets_word (Relative k) size (word_of d key i) || is_marked_slot d key.stack i

abbrev pub is_just : Location → ℕ → Option Location → Bool
is_just l size (Some w) = (size == 8) && is_zero (distance l w)
is_just l size None = false

-- what slot i becomes by a store of v into the size bytes at l: v, where they are just its word; the top, where it is
-- hit
abbrev pub stored : Description → Key → Location → ℕ → AbsValue → ℕ → AbsValue → AbsValue
stored d key l size v i old =
    cond (is_just l size (word_of d key i)) v (cond (hits d key (location_stack d key (Some l)) l size i) value_top old)
