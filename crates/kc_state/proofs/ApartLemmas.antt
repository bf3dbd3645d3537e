-- A change that meets none of the bytes from the lowest word of a part or of a block on meets none of its words: the
-- words below the base or below the top of a marked stack follow each other, 8 bytes apart, modulo 2^64. An offset is its
-- number modulo 2^64. In the parts before those the words are numbers, and past the last tracked word there is none.
use Rattle.std.proofs.Common.{◌≡◌, ℕ, zero, suc, ◌+◌, ◌-◌, ◌*◌, ◌/◌, ◌%◌, ◌^◌, ◌<◌, ◌≤◌, Bool, true, false, cond, ◌&&◌, ◌||◌, length, slice_get, Option, Some, None, option_map, ℤ, pos, neg_ℤ, refl, sym, ap, ◌∙◌, subst, arith}
use Rattle.std.specs.Prelude.{not, ◌==◌, nat_le, nat_lt}
use Rattle.std.specs.Int.{w64, cast_unsigned}
use Rattle.std.proofs.Math.Bool.{and-false}
use Rattle.std.proofs.lemmas.Bool.{ltb-true, ltb-false, lt-ltb, leb-true, le-leb, le-ltb}
use Rattle.std.proofs.lemmas.Option.{slice_get_past}
use Rattle.kc_bits.specs.Bits.{word}
use Rattle.kc_regions.specs.Description.{Description}
use Rattle.kc_regions.specs.Lookup.{tss_word}
use Rattle.kc_regions.specs.Region.{marked_of}
use Rattle.kc_regions.specs.declared.entry.Word.{Word}
use Rattle.kc_regions.specs.declared.region.Region.{Region}
use Rattle.kc_state.specs.Memory.{is_below, is_base_slot, is_same_stack, is_marked_slot, holds_top, meets_word, hits}
use Rattle.kc_state.specs.PartSteps.{IsApart, IsMissedFrom, IsMissed, hits_stack, AreApart, IsApartFrom}
use Rattle.kc_state.specs.Places.{below_address, tracked_word, base_word, marked_word, word_of}
use Rattle.kc_state.specs.Shift.{has_no_base}
use Rattle.kc_state.specs.declared.key.Key.{Key}
use Rattle.kc_state.specs.declared.location.Location.{Location}
use Rattle.kc_state.specs.declared.location.Location.TheVariants.{Number, Relative}

-- ---- numbers

record Spread (a size w : ℕ) : Type 0 where
  above : 8 ≤ below_address a w
  below : size ≤ below_address w a

-- the word k words above the lowest one of n bytes
spread : (a size low w k n : ℕ) → low < 2 ^ 64 → 8 * k + 8 ≤ n → w ≡ (low + 8 * k) % 2 ^ 64 → AreApart a size low n
    → Spread a size w
spread a size low w k n fits few is h = record {
  above = omega (arith, fits, few, is, h.fits, h.above);
  below = omega (arith, fits, few, is, h.fits, h.above, h.below);
}

-- whether the size bytes at a and the 8 bytes at w have one in common
abbrev meets_number : ℕ → ℕ → ℕ → Bool
meets_number a size w =
    not (size == 0) && (is_below 8 (Some (below_address a w)) || is_below size (Some (below_address w a)))

no_meeting : (a size w : ℕ) → Spread a size w → meets_number a size w ≡ false
no_meeting a size w h =
    ap (λ (t : Bool). not (size == 0) && (t || nat_lt (below_address w a) size)) (le-ltb (below_address a w) 8 h.above)
    ∙ ap (λ (t : Bool). not (size == 0) && (false || t)) (le-ltb (below_address w a) size h.below)
    ∙ and-false (not (size == 0))

-- the n-th word below an address, where the lowest one of the c words is the m-th
numbers_apart : (a size top n m c : ℕ) → n ≤ m → m < n + c → m ≤ 64 → AreApart a size (below_address top (8 * m)) (8 * c)
    → meets_number a size (below_address top (8 * n)) ≡ false
numbers_apart a size top n m c up near few h =
    let low = below_address top (8 * m) in
    let w = below_address top (8 * n) in
    let fits : low < 2 ^ 64 = omega arith in
    let above : w ≡ (low + 8 * (m - n)) % 2 ^ 64 = omega (arith, up, few) in
    no_meeting a size w (spread a size low w (m - n) (8 * c) fits (omega (arith, up, near)) above h)

cast_minus : (n : ℕ) → 0 < n → n < 2 ^ 64 → cast_unsigned w64 (neg_ℤ (pos n)) ≡ below_address 0 n
cast_minus zero some fits = absurd (omega (arith, some))
cast_minus (suc n) some fits = let same : 2 ^ 64 - suc n ≡ below_address 0 (suc n) = omega (arith, fits) in same

offsets_apart : (a size n m c : ℕ) → 1 ≤ n → n ≤ m → m < n + c → m ≤ 64
    → AreApart a size (cast_unsigned w64 (neg_ℤ (pos (8 * m)))) (8 * c)
    → meets_number a size (cast_unsigned w64 (neg_ℤ (pos (8 * n)))) ≡ false
offsets_apart a size n m c some up near few h =
    let low = cast_minus (8 * m) (omega (arith, some, up)) (omega (arith, few)) in
    let w = cast_minus (8 * n) (omega (arith, some)) (omega (arith, up, few)) in
    ap (meets_number a size) w ∙ numbers_apart a size 0 n m c up near few
    (subst (λ (b : ℕ). AreApart a size b (8 * c)) low h)

-- ---- words of the far slots

base_apart : (l : Location) (size : ℕ) (base : Option ℕ) (syscall : Bool) (n m c : ℕ) → 1 ≤ n → n ≤ m → m < n + c → m ≤ 64
    → IsApartFrom l size (base_word base syscall m) (8 * c) → meets_word l size (base_word base syscall n) ≡ false
base_apart (Number a) size (Some base) syscall n m c some up near few h = numbers_apart a size base n m c up near few h
base_apart (Number a) size None true n m c some up near few h = refl
base_apart (Number a) size None false n m c some up near few h = and-false (not (size == 0))
base_apart (Relative k) size (Some base) syscall n m c some up near few h = and-false (not (size == 0))
base_apart (Relative k) size None true n m c some up near few h = refl
base_apart (Relative k) size None false n m c some up near few h =
    offsets_apart (cast_unsigned w64 k) size n m c some up near few h

top_apart : (l : Location) (size : ℕ) (o : Option Region) (n m c : ℕ) → n ≤ m → m < n + c → m ≤ 64
    → IsApartFrom l size (option_map (λ r. Number (below_address r.span.to (8 * m))) o) (8 * c)
    → meets_word l size (option_map (λ r. Number (below_address r.span.to (8 * n))) o) ≡ false
top_apart (Number a) size (Some r) n m c up near few h = numbers_apart a size r.span.to n m c up near few h
top_apart (Number a) size None n m c up near few h = refl
top_apart (Relative k) size (Some r) n m c up near few h = and-false (not (size == 0))
top_apart (Relative k) size None n m c up near few h = refl

far_word : (d : Description) (key : Key) (i : ℕ) → 40 ≤ i →
    word_of d key i ≡ cond (nat_lt i 104) (base_word key.base key.syscall (i - 39))
    (marked_word d ((i - 104) / 64) ((i - 104) % 64 + 1))
far_word d key i h =
    let far = cond (nat_lt i 104) (base_word key.base key.syscall (i - 39))
    (marked_word d ((i - 104) / 64) ((i - 104) % 64 + 1)) in
    ap (λ (t : Bool). cond t (Some (Number (word (tss_word d.cpu.tss i)))) (cond (nat_lt i 40) (tracked_word d (i - 8))
    far)) (le-ltb i 8 (omega (arith, h)))
    ∙ ap (λ (t : Bool). cond t (tracked_word d (i - 8)) far) (le-ltb i 40 h)

pub slot_of_base : (d : Description) (key : Key) (i : ℕ) → 40 ≤ i → i < 104
    → word_of d key i ≡ base_word key.base key.syscall (i - 39)
slot_of_base d key i low high =
    far_word d key i low ∙ ap (λ (t : Bool). cond t (base_word key.base key.syscall (i - 39))
    (marked_word d ((i - 104) / 64) ((i - 104) % 64 + 1))) (lt-ltb i 104 high)

pub slot_of_top : (d : Description) (key : Key) (i : ℕ) → 104 ≤ i
    → word_of d key i ≡ marked_word d ((i - 104) / 64) ((i - 104) % 64 + 1)
slot_of_top d key i low =
    far_word d key i (omega (arith, low)) ∙ ap (λ (t : Bool). cond t (base_word key.base key.syscall (i - 39))
    (marked_word d ((i - 104) / 64) ((i - 104) % 64 + 1))) (le-ltb i 104 low)

-- c slots below the base, by the last of them
base_run : (d : Description) (key : Key) (l : Location) (size from c last : ℕ) → 40 ≤ from → last < 104
    → from + c ≡ last + 1
    → IsApartFrom l size (word_of d key last) (8 * c) → IsApart d key l size from c
base_run d key l size from c last above below end h i low high =
    let at = slot_of_base d key i (omega (arith, above, low)) (omega (arith, below, end, high)) in
    let lowest = slot_of_base d key last (omega (arith, above, low, end, high)) below in
    ap (meets_word l size) at
    ∙ base_apart l size key.base key.syscall (i - 39) (last - 39) c (omega (arith, above, low))
    (omega (arith, above, low, end, high)) (omega (arith, above, low, end, high)) (omega (arith, below))
    (subst (λ (o : Option Location). IsApartFrom l size o (8 * c)) lowest h)

-- c slots of one marked stack, by the last of them
same_top : (from c last i : ℕ) → 104 ≤ from → from + c ≡ last + 1 → (from - 104) / 64 ≡ (last - 104) / 64 → from ≤ i
    → i < from + c → (last - 104) / 64 ≡ (i - 104) / 64
same_top from c last i above end one low high = omega (arith, above, end, one, low, high)

top_order : (from c last i : ℕ) → 104 ≤ from → from + c ≡ last + 1 → (last - 104) / 64 ≡ (i - 104) / 64 → from ≤ i
    → i < from + c →
    ((i - 104) % 64 + 1 ≤ (last - 104) % 64 + 1) × ((last - 104) % 64 + 1 < (i - 104) % 64 + 1 + c)
top_order from c last i above end same low high =
    (omega (arith, above, end, same, low, high), omega (arith, above, end, same, low, high))

top_run : (d : Description) (key : Key) (l : Location) (size from c last : ℕ) → 104 ≤ from → from + c ≡ last + 1
    → (from - 104) / 64 ≡ (last - 104) / 64
    → IsApartFrom l size (word_of d key last) (8 * c) → IsApart d key l size from c
top_run d key l size from c last above end one h i low high =
    let at = slot_of_top d key i (omega (arith, above, low)) in
    let lowest = slot_of_top d key last (omega (arith, above, end, low, high)) in
    let stack = same_top from c last i above end one low high in
    let same = ap (λ (m : ℕ). marked_word d m ((last - 104) % 64 + 1)) stack in
    let order = top_order from c last i above end stack low high in
    ap (meets_word l size) at
    ∙ top_apart l size (slice_get (marked_of d.regions) ((i - 104) / 64)) ((i - 104) % 64 + 1) ((last - 104) % 64 + 1) c
    order.0 order.1 (omega arith) (subst (λ (o : Option Location). IsApartFrom l size o (8 * c)) (lowest ∙ same) h)

by_side : (d : Description) (key : Key) (l : Location) (size part : ℕ) → 5 ≤ part
    → IsApartFrom l size (word_of d key (8 * part + 7)) 64 → (t : Bool) → nat_lt part 13 ≡ t
    → IsApart d key l size (8 * part) 8
by_side d key l size part from h true e =
    base_run d key l size (8 * part) 8 (8 * part + 7) (omega (arith, from)) (omega (arith, ltb-true part 13 e))
    (omega arith) h
by_side d key l size part from h false e =
    top_run d key l size (8 * part) 8 (8 * part + 7) (omega (arith, ltb-false part 13 e)) (omega arith)
    (omega (arith, ltb-false part 13 e)) h

pub far_apart : (d : Description) (key : Key) (l : Location) (size part : ℕ) → 5 ≤ part
    → IsApartFrom l size (word_of d key (8 * part + 7)) 64 → IsApart d key l size (8 * part) 8
far_apart d key l size part from h = by_side d key l size part from h (nat_lt part 13) refl

-- the block below the base, and those below the tops of the marked stacks
pub block_apart : (d : Description) (key : Key) (l : Location) (size block : ℕ)
    → IsApartFrom l size (word_of d key (64 * block + 103)) 512 → IsApart d key l size (64 * block + 40) 64
block_apart d key l size zero h = base_run d key l size 40 64 103 (omega arith) (omega arith) (omega arith) h
block_apart d key l size (suc b) h =
    top_run d key l size (64 * suc b + 40) 64 (64 * suc b + 103) (omega arith) (omega arith) (omega arith) h

-- ---- words of the near slots

near_word : (d : Description) (key : Key) (i : ℕ) → i < 40
    → word_of d key i ≡ cond (nat_lt i 8) (Some (Number (word (tss_word d.cpu.tss i)))) (tracked_word d (i - 8))
near_word d key i h =
    ap (λ (t : Bool). cond (nat_lt i 8) (Some (Number (word (tss_word d.cpu.tss i)))) (cond t (tracked_word d (i - 8))
    (cond (nat_lt i 104) (base_word key.base key.syscall (i - 39))
    (marked_word d ((i - 104) / 64) ((i - 104) % 64 + 1))))) (lt-ltb i 40 h)

tracked_apart : (k : ℤ) (size : ℕ) (o : Option Word) → meets_word (Relative k) size (option_map (λ w. Number w.at) o)
    ≡ false
tracked_apart k size (Some w) = and-false (not (size == 0))
tracked_apart k size None = refl

choice : (P : Option Location → Type 0) (b : Bool) (x y : Option Location) → P x → P y → P (cond b x y)
choice P true x y hx hy = hx
choice P false x y hx hy = hy

pub offset_apart : (d : Description) (key : Key) (k : ℤ) (size part : ℕ) → part < 5
    → IsApart d key (Relative k) size (8 * part) 8
offset_apart d key k size part to i low high =
    ap (meets_word (Relative k) size) (near_word d key i (omega (arith, to, high)))
    ∙ choice (λ w. meets_word (Relative k) size w ≡ false) (nat_lt i 8) (Some (Number (word (tss_word d.cpu.tss i))))
    (tracked_word d (i - 8)) (and-false (not (size == 0))) (tracked_apart k size (slice_get d.words (i - 8)))

pub untracked_apart : (d : Description) (key : Key) (l : Location) (size part : ℕ) → 1 ≤ part → part < 5
    → length d.words ≤ 8 * part - 8 → IsApart d key l size (8 * part) 8
untracked_apart d key l size part from to past i low high =
    let none : tracked_word d (i - 8) ≡ None =
    ap (option_map (λ w. Number w.at)) (slice_get_past d.words (i - 8) (omega (arith, past, from, low))) in
    ap (meets_word l size) (near_word d key i (omega (arith, to, high))
    ∙ ap (λ (t : Bool). cond t (Some (Number (word (tss_word d.cpu.tss i)))) (tracked_word d (i - 8)))
    (le-ltb i 8 (omega (arith, from, low)))
    ∙ none)

-- ---- hits by the stacks alone

same_test : (b c : Bool) → (b ≡ true → c ≡ true) → (c ≡ true → b ≡ true) → b ≡ c
same_test true c f g = sym (f refl)
same_test false true f g = g refl
same_test false false f g = refl

from_same : (n a i : ℕ) → (n ≤ i → n ≤ a) → (n ≤ a → n ≤ i) → nat_le n i ≡ nat_le n a
from_same n a i there back =
    same_test (nat_le n i) (nat_le n a) (λ e. le-leb n a (there (leb-true n i e)))
    (λ e. le-leb n i (back (leb-true n a e)))

to_same : (n a i : ℕ) → (i < n → a < n) → (a < n → i < n) → nat_lt i n ≡ nat_lt a n
to_same n a i there back =
    same_test (nat_lt i n) (nat_lt a n) (λ e. lt-ltb a n (there (ltb-true i n e)))
    (λ e. lt-ltb i n (back (ltb-true a n e)))

-- slots of which all or none are the base's, and which are those of one marked stack if they are such a stack's
record Alike (a i : ℕ) : Type 0 where
  from_base : (40 ≤ i → 40 ≤ a) × (40 ≤ a → 40 ≤ i)
  to_base : (i < 104 → a < 104) × (a < 104 → i < 104)
  marked : (104 ≤ i → 104 ≤ a) × (104 ≤ a → 104 ≤ i)
  stack : (i - 104) / 64 ≡ (a - 104) / 64

base_same : (a i : ℕ) → Alike a i → is_base_slot i ≡ is_base_slot a
base_same a i h =
    ap (λ (t : Bool). t && nat_lt i 104) (from_same 40 a i h.from_base.0 h.from_base.1)
    ∙ ap (λ (t : Bool). nat_le 40 a && t) (to_same 104 a i h.to_base.0 h.to_base.1)

marked_same : (d : Description) (stack : Option ℕ) (a i : ℕ) → Alike a i
    → is_marked_slot d stack i ≡ is_marked_slot d stack a
marked_same d stack a i h =
    ap (λ (t : Bool). t && holds_top d stack (slice_get (marked_of d.regions) ((i - 104) / 64)))
    (from_same 104 a i h.marked.0 h.marked.1)
    ∙ ap (λ (m : ℕ). nat_le 104 a && holds_top d stack (slice_get (marked_of d.regions) m)) h.stack

stack_same : (d : Description) (key : Key) (stack : Option ℕ) (l : Location) (a i : ℕ) → Alike a i
    → hits_stack d key stack l i ≡ hits_stack d key stack l a
stack_same d key stack (Number n) a i h =
    ap (λ (t : Bool). has_no_base key.base && (is_same_stack stack key.stack && t)) (base_same a i h)
stack_same d key stack (Relative k) a i h = marked_same d key.stack a i h

part_alike : (part i : ℕ) → 8 * part ≤ i → i < 8 * part + 8 → Alike (8 * part) i
part_alike part i low high = record {
  from_base = (λ e. omega (arith, low, high, e), λ e. omega (arith, low, high, e));
  to_base = (λ e. omega (arith, low, high, e), λ e. omega (arith, low, high, e));
  marked = (λ e. omega (arith, low, high, e), λ e. omega (arith, low, high, e));
  stack = omega (arith, low, high);
}

block_alike : (block i : ℕ) → 64 * block + 40 ≤ i → i < 64 * block + 40 + 64 → Alike (64 * block + 40) i
block_alike block i low high = record {
  from_base = (λ e. omega arith, λ e. omega (arith, low));
  to_base = (λ e. omega (arith, low, high, e), λ e. omega (arith, low, high, e));
  marked = (λ e. omega (arith, low, high, e), λ e. omega (arith, low, high, e));
  stack = omega (arith, low, high);
}

pub hit_by : (d : Description) (key : Key) (stack : Option ℕ) (l : Location) (size i : ℕ)
    → hits d key stack l size i ≡ (meets_word l size (word_of d key i) || hits_stack d key stack l i)
hit_by d key stack (Number a) size i = refl
hit_by d key stack (Relative k) size i = refl

pub missed : (d : Description) (key : Key) (stack : Option ℕ) (l : Location) (size part : ℕ)
    → hits_stack d key stack l (8 * part) ≡ false → IsApart d key l size (8 * part) 8
    → IsMissed d key stack l size part
missed d key stack l size part none apart i low high =
    hit_by d key stack l size i
    ∙ ap (λ (t : Bool). t || hits_stack d key stack l i) (apart i low high)
    ∙ stack_same d key stack l (8 * part) i (part_alike part i low high) ∙ none

pub block_missed : (d : Description) (key : Key) (stack : Option ℕ) (l : Location) (size block : ℕ)
    → hits_stack d key stack l (64 * block + 40) ≡ false → IsApart d key l size (64 * block + 40) 64
    → IsMissedFrom d key stack l size (64 * block + 40) 64
block_missed d key stack l size block none apart i low high =
    hit_by d key stack l size i
    ∙ ap (λ (t : Bool). t || hits_stack d key stack l i) (apart i low high)
    ∙ stack_same d key stack l (64 * block + 40) i (block_alike block i low high) ∙ none
