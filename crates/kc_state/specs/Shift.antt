-- A value plus a number that is known, this project's own.
use Rattle.std.specs.Prelude.{ℕ, ◌-◌, ◌^◌, Bool, true, false, cond, ◌&&◌, ◌==◌, Option, Some, None, ℤ, pos, ◌+ℤ◌, neg_ℤ, int_le}
use Rattle.std.specs.Int.{w64, cast_unsigned}
use Rattle.kc_bits.specs.Bits.{all_of, bits_add, nothing_known}
use Rattle.kc_regions.specs.Description.{Description}
use Rattle.kc_regions.specs.Region.{stack_of}
use Rattle.kc_value.specs.AbsValue.{AbsValue}
use Rattle.kc_value.specs.Made.{derived}
use Rattle.kc_value.specs.Value.{all_places}
use Rattle.kc_value.specs.declared.symbol.Sym.{Sym}
use Rattle.kc_value.specs.declared.symbol.Sym.TheVariants.{Plain, Base, Entry, UserGs}
use Rattle.kc_state.specs.declared.key.Key.{Key}

-- k is an offset of 64 bits
abbrev pub is_offset : ℤ → Bool
is_offset k = int_le (neg_ℤ (pos (2 ^ 63))) k && int_le k (pos (2 ^ 63 - 1))

-- the set has this one stack
abbrev pub is_only_stack : ℕ → Option ℕ → Bool
is_only_stack set (Some s) = set == 2 ^ s
is_only_stack set None = false

abbrev pub has_no_base : Option ℕ → Bool
has_no_base None = true
has_no_base (Some base) = false

-- the places of base + k, which came from a value with these places by moving up by c: the stack of the key, where they
-- were that one alone, the key has no base, and the move goes up and not past the base; and any places else
abbrev pub shifted_places : Key → ℕ → ℤ → ℤ → ℕ
shifted_places key places c k =
    cond (is_only_stack places key.stack && (has_no_base key.base && (int_le (pos 0) c && int_le k (pos 0)))) places
    all_places

-- base + k with no known bit
abbrev pub based : ℤ → ℕ → AbsValue
based k places = record { sym = Base k; bits = nothing_known; stacks = places }

-- derived of the sum of the bits with c
abbrev pub moved_bits : Description → AbsValue → ℤ → AbsValue
moved_bits d v c = derived (stack_of d.regions) (bits_add v.bits (all_of (cast_unsigned w64 c)))

abbrev pub shifted_from : Description → Key → AbsValue → ℤ → Sym → AbsValue
shifted_from d key v c (Base k) =
    cond (is_offset (k +ℤ c)) (based (k +ℤ c) (shifted_places key v.stacks c (k +ℤ c))) (moved_bits d v c)
shifted_from d key v c Plain = moved_bits d v c
shifted_from d key v c (Entry w) = moved_bits d v c
shifted_from d key v c UserGs = moved_bits d v c

-- v plus the whole number c: the symbol Base moves, where the offset stays one of 64 bits
abbrev pub shifted : Description → Key → AbsValue → ℤ → AbsValue
shifted d key v c = shifted_from d key v c v.sym
