-- What is made of well-formed values is well-formed: of bits and numbers alone the symbol is Plain, and a value of the
-- base knows no bit. By cases on symbols and on what is known; a set of places that has a stack or the outside isn't
-- empty.
use Rattle.std.proofs.Common.{◌≡◌, ◌≢◌, ℕ, ◌^◌, Bool, true, false, cond, ◌==◌, List, length, get_or, slice_set, All, Option, Some, None, IfSome, ℤ, ◌+ℤ◌, arith, refl, sym, ◌∙◌, subst, inl, inr}
use Rattle.std.proofs.lemmas.Bool.{cases_lt, eqb-true}
use Rattle.std.proofs.lemmas.List.{get_or_past}
use Rattle.std.proofs.lemmas.List.Elements.{All-get_or, All-set}
use Rattle.std.proofs.lemmas.Nat.{pow_pos, le_or_l}
use Rattle.std.specs.Int.{w64, cast_unsigned}
use Rattle.kc_bits.specs.KnownBits.{KnownBits}
use Rattle.kc_bits.specs.Bits.{bits_single, bits_cut, bits_add, all_of}
use Rattle.kc_regions.specs.Description.{Description}
use Rattle.kc_regions.specs.Region.{stack_of}
use Rattle.kc_value.specs.AbsValue.{AbsValue}
use Rattle.kc_value.specs.Made.{constant, derived_from, derived, plain}
use Rattle.kc_value.specs.Place.{place_bit}
use Rattle.kc_value.specs.Symbol.{sym_joined}
use Rattle.kc_value.specs.Value.{value_top, value_joined, all_places}
use Rattle.kc_value.specs.declared.symbol.Sym.{Sym}
use Rattle.kc_value.specs.declared.symbol.Sym.TheVariants.{Plain, Base, Entry, UserGs}
use Rattle.kc_words.specs.declared.width.Width.{Width}
use Rattle.kc_words.specs.declared.width.Width.TheVariants.{Byte, Long, Quad}
use Rattle.kc_state.specs.Operand.{at_width, bits_value, number_value}
use Rattle.kc_state.specs.Shift.{is_offset, shifted_places, based, moved_bits, shifted_from, shifted}
use Rattle.kc_state.specs.WellFormed.{IsSymbolWellFormed, IsWellFormed}
use Rattle.kc_state.specs.declared.key.Key.{Key}

-- ---- sets of places

pub one_place : (s : ℕ) → 2 ^ s ≢ 0
one_place s e = let p = pow_pos s in absurd (omega (arith, e, p))

pub any_place : all_places ≢ 0
any_place e = absurd (omega (arith, e))

pub places_if : (b : Bool) (x y : ℕ) → x ≢ 0 → y ≢ 0 → cond b x y ≢ 0
places_if true x y hx hy = hx
places_if false x y hx hy = hy

-- ---- values

pub value_if : (d : Description) (key : Key) (b : Bool) (x y : AbsValue) → IsWellFormed d key x → IsWellFormed d key y
    → IsWellFormed d key (cond b x y)
value_if d key true x y hx hy = hx
value_if d key false x y hx hy = hy

pub constant_formed : (d : Description) (key : Key) (n : ℕ) (place : Option ℕ) → IsWellFormed d key (constant n place)
constant_formed d key n place = record { symbol = tt; somewhere = one_place (place_bit place) }

from_formed : (d : Description) (key : Key) (place : ℕ → Option ℕ) (b : KnownBits) (n : Option ℕ)
    → IsWellFormed d key (derived_from place b n)
from_formed d key place b (Some n) = constant_formed d key n (place n)
from_formed d key place b None = record { symbol = tt; somewhere = any_place }

pub derived_formed : (d : Description) (key : Key) (place : ℕ → Option ℕ) (b : KnownBits)
    → IsWellFormed d key (derived place b)
derived_formed d key place b = from_formed d key place b (bits_single b)

pub bits_formed : (d : Description) (key : Key) (b : KnownBits) → IsWellFormed d key (bits_value d b)
bits_formed d key b = derived_formed d key (stack_of d.regions) b

pub number_formed : (d : Description) (key : Key) (n : ℕ) → IsWellFormed d key (number_value d n)
number_formed d key n = constant_formed d key n (stack_of d.regions n)

pub top_formed : (d : Description) (key : Key) → IsWellFormed d key value_top
top_formed d key = record { symbol = tt; somewhere = any_place }

pub plain_formed : (d : Description) (key : Key) (v : AbsValue) → IsWellFormed d key v → IsWellFormed d key (plain v)
plain_formed d key v h = record { symbol = tt; somewhere = h.somewhere }

pub width_formed : (d : Description) (key : Key) (w : Width) (v : AbsValue) → IsWellFormed d key v
    → IsWellFormed d key (at_width d w v)
width_formed d key Quad v h = h
width_formed d key Long v h = bits_formed d key (bits_cut 32 v.bits)
width_formed d key Byte v h = bits_formed d key (bits_cut 8 v.bits)

-- ---- moves

based_formed : (d : Description) (key : Key) (k : ℤ) (places : ℕ) → places ≢ 0 → IsWellFormed d key (based k places)
based_formed d key k places h = record { symbol = refl; somewhere = h }

moved_formed : (d : Description) (key : Key) (v : AbsValue) (c : ℤ) → IsWellFormed d key (moved_bits d v c)
moved_formed d key v c = derived_formed d key (stack_of d.regions) (bits_add v.bits (all_of (cast_unsigned w64 c)))

from_base_formed : (d : Description) (key : Key) (v : AbsValue) (c : ℤ) (s : Sym) → v.stacks ≢ 0
    → IsWellFormed d key (shifted_from d key v c s)
from_base_formed d key v c (Base k) h =
    value_if d key (is_offset (k +ℤ c)) (based (k +ℤ c) (shifted_places key v.stacks c (k +ℤ c))) (moved_bits d v c)
    (based_formed d key (k +ℤ c) (shifted_places key v.stacks c (k +ℤ c)) (places_if _ v.stacks all_places h any_place))
    (moved_formed d key v c)
from_base_formed d key v c Plain h = moved_formed d key v c
from_base_formed d key v c (Entry w) h = moved_formed d key v c
from_base_formed d key v c UserGs h = moved_formed d key v c

pub shifted_formed : (d : Description) (key : Key) (v : AbsValue) (c : ℤ) → IsWellFormed d key v
    → IsWellFormed d key (shifted d key v c)
shifted_formed d key v c h = from_base_formed d key v c v.sym h.somewhere

-- the places aren't part of what a symbol asks
pub other_places : (d : Description) (key : Key) (v : AbsValue) (places : ℕ) (s : Sym) → IsSymbolWellFormed d key v s
    → IsSymbolWellFormed d key (record v { stacks = places }) s
other_places d key v places Plain h = tt
other_places d key v places (Base k) h = h
other_places d key v places (Entry w) h = h
other_places d key v places UserGs h = h

-- ---- joins with a word of the interrupted processor

word_joined : (d : Description) (key : Key) (v : AbsValue) (w u : ℕ) (same : Bool) → (w == u) ≡ same
    → (u ≡ 4 → bits_single v.bits ≡ None)
    → IsSymbolWellFormed d key v (cond same (Entry w) Plain)
word_joined d key v w u true e h = λ four.
    let is : u ≡ 4 = sym (eqb-true w u e) ∙ four in
    subst (λ (n : Option ℕ). IfSome n (λ k. stack_of d.regions k ≡ key.stack)) (sym (h is)) tt
word_joined d key v w u false e h = tt

symbol_joined : (d : Description) (key : Key) (v : AbsValue) (u : ℕ) (s : Sym) → (u ≡ 4 → bits_single v.bits ≡ None)
    → IsSymbolWellFormed d key v (sym_joined s (Entry u))
symbol_joined d key v u Plain h = tt
symbol_joined d key v u (Base k) h = tt
symbol_joined d key v u (Entry w) h = word_joined d key v w u (w == u) refl h
symbol_joined d key v u UserGs h = tt

pub joined_formed : (d : Description) (key : Key) (v e : AbsValue) (u : ℕ) → e.sym ≡ Entry u
    → (u ≡ 4 → bits_single (value_joined v e).bits ≡ None)
    → IsWellFormed d key v → IsWellFormed d key (value_joined v e)
joined_formed d key v e u is none h = record {
  symbol = subst (λ (s : Sym). IsSymbolWellFormed d key (value_joined v e) (sym_joined v.sym s)) (sym is)
      (symbol_joined d key (value_joined v e) u v.sym none);
  somewhere = λ z. let least = le_or_l v.stacks e.stacks in h.somewhere (omega (arith, z, least));
}

-- ---- lists

pub each_read : (d : Description) (key : Key) (xs : List AbsValue) (i : ℕ) → All (IsWellFormed d key) xs
    → IsWellFormed d key (get_or xs i value_top)
each_read d key xs i h = elim (cases_lt i (length xs)) [
  | inl k ↦ All-get_or (IsWellFormed d key) xs i value_top k h
  | inr k ↦ subst (IsWellFormed d key) (sym (get_or_past xs i value_top k)) (top_formed d key)
]

pub each_set : (d : Description) (key : Key) (xs : List AbsValue) (i : ℕ) (v : AbsValue) → IsWellFormed d key v
    → All (IsWellFormed d key) xs
    → All (IsWellFormed d key) (slice_set xs i v)
each_set d key xs i v hv h = All-set (IsWellFormed d key) xs i v hv h
