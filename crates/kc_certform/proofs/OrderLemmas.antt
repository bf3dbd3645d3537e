-- Lists of numbers compared part by part: of two lists whose first parts have one length, the first parts decide,
-- unless they are the same (`parts`, by induction on the first part). A loop over items whose numbers are equally many
-- keeps that what is left decides (`item-same`), and ends where an item decides (`item-decides`) or none is left.
use Rattle.std.proofs.Common.{◌≡◌, ℕ, ◌+◌, ◌<◌, ◌≤◌, true, false, List, [], ◌∷◌, ◌++◌, length, drop, get_or, refl, sym, ap, ◌∙◌, arith}
use Rattle.std.specs.List.{flat_map}
use Rattle.std.specs.Cmp.Lexicographic.{slice_cmp}
use Rattle.std.specs.Ordering.{is_ne, nat_cmp, ordering_then}
use Rattle.std.specs.declared.cmp.Ordering.{Ordering}
use Rattle.std.specs.declared.cmp.Ordering.TheVariants.{Less, Equal, Greater}
use Rattle.std.proofs.lemmas.Grind.{common_steps}
use Rattle.std.proofs.lemmas.List.{drop_more, length-append}
use Rattle.kc_value.specs.AbsValue.{AbsValue}
use Rattle.kc_value.specs.declared.symbol.Sym.{Sym}
use Rattle.kc_value.specs.declared.symbol.Sym.TheVariants.{Plain, Base, Entry, UserGs}
use Rattle.kc_frames.specs.declared.floor.Floor.{Floor}
use Rattle.kc_frames.specs.declared.floor.Floor.TheVariants as floor
use Rattle.kc_certform.specs.Numbers.{symbol_numbers, value_numbers, floor_numbers}

abbrev pub compared : List ℕ → List ℕ → Ordering
compared xs ys = slice_cmp nat_cmp xs ys

then-regrouped : (a b c : Ordering) → ordering_then a (ordering_then b c) ≡ ordering_then (ordering_then a b) c
then-regrouped Less b c = refl
then-regrouped Equal b c = refl
then-regrouped Greater b c = refl

parts : (xs ys more others : List ℕ) → length xs ≡ length ys
    → compared (xs ++ more) (ys ++ others) ≡ ordering_then (compared xs ys) (compared more others)
parts [] [] more others e = refl
parts [] (y ∷ ys) more others e = absurd (omega (arith, e))
parts (x ∷ xs) [] more others e = absurd (omega (arith, e))
parts (x ∷ xs) (y ∷ ys) more others e =
    ap (λ (o : Ordering). ordering_then (nat_cmp x y) o) (parts xs ys more others (omega (arith, e)))
    ∙ then-regrouped (nat_cmp x y) (compared xs ys) (compared more others)

decides : (o rest : Ordering) → is_ne o ≡ true → o ≡ ordering_then o rest
decides Less rest e = refl
decides Equal rest e = absurd cc
decides Greater rest e = refl

passes : (o rest : Ordering) → is_ne o ≡ false → rest ≡ ordering_then o rest
passes Less rest e = absurd cc
passes Equal rest e = refl
passes Greater rest e = absurd cc

-- the first parts differ
pub first-decides : (xs ys more others : List ℕ) (o : Ordering) → length xs ≡ length ys → o ≡ compared xs ys
    → is_ne o ≡ true → o ≡ compared (xs ++ more) (ys ++ others)
first-decides xs ys more others o e is differs =
    decides o (compared more others) differs
    ∙ ap (λ (p : Ordering). ordering_then p (compared more others)) is
    ∙ sym (parts xs ys more others e)

-- the first parts are the same
pub rest-decides : (xs ys more others : List ℕ) (o : Ordering) → length xs ≡ length ys → o ≡ compared xs ys
    → is_ne o ≡ false → compared more others ≡ compared (xs ++ more) (ys ++ others)
rest-decides xs ys more others o e is same =
    passes o (compared more others) same
    ∙ ap (λ (p : Ordering). ordering_then p (compared more others)) is
    ∙ sym (parts xs ys more others e)

-- ---- lists of items, each with as many numbers

module _ {A : Type 0} (f : A → List ℕ) (even : (x y : A) → length (f x) ≡ length (f y)) where
  pub as-long : (xs ys : List A) → length xs ≡ length ys → length (flat_map f xs) ≡ length (flat_map f ys)
  as-long [] [] e = refl
  as-long [] (y ∷ ys) e = absurd (omega (arith, e))
  as-long (x ∷ xs) [] e = absurd (omega (arith, e))
  as-long (x ∷ xs) (y ∷ ys) e =
      omega (
        arith,
        length-append (f x) (flat_map f xs),
        length-append (f y) (flat_map f ys),
        even x y,
        as-long xs ys (omega (arith, e)),
      )

  opened : (xs : List A) (i : ℕ) (d : A) → i < length xs
      → flat_map f (drop i xs) ≡ f (get_or xs i d) ++ flat_map f (drop (i + 1) xs)
  opened xs i d below = ap (flat_map f) (drop_more xs i d below)

  -- the items here are the same
  pub item-same : (xs ys : List A) (i : ℕ) (d e : A) (o : Ordering) → i < length xs → i < length ys
      → o ≡ compared (f (get_or xs i d)) (f (get_or ys i e)) → is_ne o ≡ false
      → compared (flat_map f (drop (i + 1) xs)) (flat_map f (drop (i + 1) ys))
      ≡ compared (flat_map f (drop i xs)) (flat_map f (drop i ys))
  item-same xs ys i d e o a b is same =
      let x = get_or xs i d in
      let y = get_or ys i e in
      rest-decides (f x) (f y) (flat_map f (drop (i + 1) xs)) (flat_map f (drop (i + 1) ys)) o (even x y) is same
      ∙ ap (λ (t : List ℕ). compared t (f y ++ flat_map f (drop (i + 1) ys))) (sym (opened xs i d a))
      ∙ ap (λ (t : List ℕ). compared (flat_map f (drop i xs)) t) (sym (opened ys i e b))

  -- the items here differ
  pub item-decides : (xs ys : List A) (i : ℕ) (d e : A) (o : Ordering) → i < length xs → i < length ys
      → o ≡ compared (f (get_or xs i d)) (f (get_or ys i e)) → is_ne o ≡ true
      → o ≡ compared (flat_map f (drop i xs)) (flat_map f (drop i ys))
  item-decides xs ys i d e o a b is differs =
      let x = get_or xs i d in
      let y = get_or ys i e in
      first-decides (f x) (f y) (flat_map f (drop (i + 1) xs)) (flat_map f (drop (i + 1) ys)) o (even x y) is differs
      ∙ ap (λ (t : List ℕ). compared t (f y ++ flat_map f (drop (i + 1) ys))) (sym (opened xs i d a))
      ∙ ap (λ (t : List ℕ). compared (flat_map f (drop i xs)) t) (sym (opened ys i e b))

  ended : (xs : List A) (i : ℕ) → length xs ≤ i → flat_map f (drop i xs) ≡ []
  ended xs i le = let none : drop i xs ≡ [] = grind (arith, common_steps, le) in ap (flat_map f) none

  pub none-left : (xs ys : List A) (i : ℕ) → length xs ≤ i → length ys ≤ i
      → Equal ≡ compared (flat_map f (drop i xs)) (flat_map f (drop i ys))
  none-left xs ys i a b =
      ap (λ (t : List ℕ). compared t []) (sym (ended xs i a))
      ∙ ap (λ (t : List ℕ). compared (flat_map f (drop i xs)) t) (sym (ended ys i b))

-- ---- numbers of values and floors

symbol-long : (s : Sym) → length (symbol_numbers s) ≡ 2
symbol-long Plain = refl
symbol-long (Base k) = refl
symbol-long (Entry w) = refl
symbol-long UserGs = refl

value-long : (v : AbsValue) → length (value_numbers v) ≡ 5
value-long v =
    omega (
      arith,
      length-append (symbol_numbers v.sym) (v.bits.zeros ∷ v.bits.ones ∷ v.stacks ∷ []),
      symbol-long v.sym,
    )

pub values-even : (v w : AbsValue) → length (value_numbers v) ≡ length (value_numbers w)
values-even v w = value-long v ∙ sym (value-long w)

floor-long : (f : Floor) → length (floor_numbers f) ≡ 2
floor-long (floor.At a) = refl
floor-long floor.Base = refl

pub floors-even : (f g : Floor) → length (floor_numbers f) ≡ length (floor_numbers g)
floors-even f g = floor-long f ∙ sym (floor-long g)
