-- Symbols by name. The claims: sorting by name keeps what each look-up finds, and halving finds it. Plan: a look-up
-- sees only the symbols of its name, in their order (`found_by_filter`); those tie with each other in the order of
-- names and with no others (`named_alike`), so a stable sort leaves them as they were (`found_in_sorted`). In the order
-- of names the symbols before a name, of it and after it have the ranks 0, 1 and 2, which don't fall; so the first that
-- isn't before the name is the one, or none is (`found_at_point`). omega is left to compare ranks and indices.
use Rattle.std.proofs.Common.{◌≡◌, ℕ, zero, suc, ◌<◌, ◌≤◌, Bool, true, false, not, ◌&&◌, eqb, ltb, List, [], ◌∷◌, length, get_or, filter, Option, Some, None, refl, sym, ap, subst, ◌∙◌, inl, inr, arith, nat_cmp, is_lt, is_eq, Ordering, Less, Equal, Greater, slice_get, Bor}
use Rattle.std.specs.Prelude.{◌⊎◌}
use Rattle.std.specs.Option.{option_copied}
use Rattle.std.specs.Slice.{IsItemAt}
use Rattle.std.specs.Cmp.Lexicographic.{slice_cmp}
use Rattle.std.specs.List.Sorted.{IsStableByKey, IsNonDecreasingBy, IsPartitionedBy, IsPartitionPoint, ties}
use Rattle.std.specs.Ordering.{ordering_index, ordering_reverse}
use Rattle.std.specs.Str.{bytes_eq}
use Rattle.std.proofs.lemmas.Bool.{cases_Bool, eqb-false, ne_eqb, ltb-true, ltb-false}
use Rattle.std.specs.Cmp.{both_ways}
use Rattle.std.proofs.lemmas.Cmp.{nat_list_cmp_total}
use Rattle.std.proofs.lemmas.List.Sorted.{searchable_from_sorted, IsPartitionedBy-ltb}
use Rattle.std.proofs.lemmas.Map.Text.{is_eq-slice_cmp}
use Rattle.std.proofs.lemmas.Option.{slice_get-get_or}
use Rattle.std.proofs.lemmas.Slice.Eq.{bytes_eq-Decides}
use Rattle.kc_image.specs.declared.index.Named.{Named}
use Rattle.kc_image.specs.Image.{address_of}
use Rattle.kc_image.specs.SymbolSteps.{name_of, spelled, spelled_one, AreByName}

-- the order of two names
abbrev pub compared : List ℕ → List ℕ → Ordering
compared = slice_cmp nat_cmp

-- ---- a stable sort

abbrev first_of : List ℕ → List Named → Option ℕ
first_of file [] = None
first_of file (n ∷ ns) = Some n.value

abbrev named : List ℕ → List ℕ → Named → Bool
named file name n = bytes_eq name (name_of file n)

found_by_filter : (file name : List ℕ) (zs : List Named)
    → address_of (spelled file zs) name ≡ first_of file (filter (named file name) zs)
found_by_filter file name [] = refl
found_by_filter file name (z ∷ zs) = elim (cases_Bool (named file name z)) [
  | inl t ↦ rw t refl
  | inr f ↦ rw f (found_by_filter file name zs)
]

tie_is : (o : Ordering) → (not (is_lt o) && not (is_lt (ordering_reverse o))) ≡ is_eq o
tie_is Less = refl
tie_is Equal = refl
tie_is Greater = refl

named_alike : (file : List ℕ) (x y : Named)
    → ties (λ a b. is_lt (compared (name_of file a) (name_of file b))) x y ≡ named file (name_of file x) y
named_alike file x y =
    let kx = name_of file x in
    let ky = name_of file y in
    ap (λ (o : Ordering). not (is_lt (compared kx ky)) && not (is_lt o)) (nat_list_cmp_total.antisymm ky kx)
    ∙ tie_is (compared kx ky) ∙ is_eq-slice_cmp kx ky

witness : (p : Named → Bool) (zs : List Named) → (filter p zs ≡ []) ⊎ ((z : Named) × (p z ≡ true))
witness p [] = inl refl
witness p (z ∷ zs) = elim (cases_Bool (p z)) [
  | inl t ↦ inr (z, t)
  | inr f ↦ elim (witness p zs) [ inl none ↦ inl (rw f none) | inr one ↦ inr one ]
]

module _ (file name : List ℕ) (xs ys : List Named) (stable : IsStableByKey (name_of file) compared xs ys) where
  same_of : (z : Named) → named file name z ≡ true → filter (named file name) ys ≡ filter (named file name) xs
  same_of z is =
      let same : name ≡ name_of file z = (bytes_eq-Decides name (name_of file z)).0 is in
      let alike : ties (λ a b. is_lt (compared (name_of file a) (name_of file b))) z ≡ named file name =
      (λ i y. named_alike file z y i) ∙ ap (named file) (sym same) in
      subst (λ (p : Named → Bool). filter p ys ≡ filter p xs) alike (stable z)

  same_named : filter (named file name) ys ≡ filter (named file name) xs
  same_named = elim (witness (named file name) ys) [
    | inl none ↦ elim (witness (named file name) xs) [
      | inl nothing ↦ none ∙ sym nothing
      | inr one ↦ same_of one.0 one.1
    ]
    | inr one ↦ same_of one.0 one.1
  ]

  pub found_in_sorted : address_of (spelled file ys) name ≡ address_of (spelled file xs) name
  found_in_sorted = found_by_filter file name ys ∙ ap (first_of file) same_named ∙ sym (found_by_filter file name xs)

-- ---- halving

-- 0 before the name, 1 at it and 2 after it
abbrev rank : List ℕ → List ℕ → Named → ℕ
rank file name n = ordering_index (compared (name_of file n) name)

index_of_equal : (o : Ordering) → is_eq o ≡ eqb (ordering_index o) 1
index_of_equal Less = refl
index_of_equal Equal = refl
index_of_equal Greater = refl

index_of_less : (o : Ordering) → is_lt o ≡ ltb (ordering_index o) 1
index_of_less Less = refl
index_of_less Equal = refl
index_of_less Greater = refl

turned : (xs ys : List ℕ) → bytes_eq xs ys ≡ bytes_eq ys xs
turned xs ys = both_ways (bytes_eq xs ys) (bytes_eq ys xs)
    (λ e. (bytes_eq-Decides ys xs).1 (sym ((bytes_eq-Decides xs ys).0 e)))
    (λ e. (bytes_eq-Decides xs ys).1 (sym ((bytes_eq-Decides ys xs).0 e)))

named_is : (file name : List ℕ) (n : Named) → bytes_eq name (name_of file n) ≡ eqb (rank file name n) 1
named_is file name n =
    turned name (name_of file n) ∙ sym (is_eq-slice_cmp (name_of file n) name)
    ∙ index_of_equal (compared (name_of file n) name)

none_named : (file name : List ℕ) (xs : List Named)
    → ((k : ℕ) (d : Named) → k < length xs → 1 < rank file name (get_or xs k d))
    → None ≡ address_of (spelled file xs) name
none_named file name [] past = refl
none_named file name (x ∷ xs) past =
    let other : bytes_eq name (name_of file x) ≡ false =
    named_is file name x ∙ ne_eqb (rank file name x) 1 (λ e. omega (arith, e, past 0 x (omega arith))) in
    rw other (none_named file name xs (λ k d lt. past (suc k) d (omega arith)))

found_at_point : (file name : List ℕ) (xs : List Named) (i : ℕ)
    → ((k : ℕ) (d : Named) → k < i → ltb (rank file name (get_or xs k d)) 1 ≡ true)
    → ((k : ℕ) (d : Named) → i ≤ k → k < length xs → ltb (rank file name (get_or xs k d)) 1 ≡ false)
    → IsNonDecreasingBy (rank file name) xs
    → address_of (spelled_one file (slice_get xs i)) name ≡ address_of (spelled file xs) name
found_at_point file name [] i less rest rises = refl
found_at_point file name (x ∷ xs) zero less rest rises = elim (cases_Bool (bytes_eq name (name_of file x))) [
  | inl t ↦ rw t refl
  | inr f ↦
      let at : 1 ≤ rank file name x = ltb-false _ _ (rest 0 x (omega arith) (omega arith)) in
      let past : 1 < rank file name x =
      omega (arith, at, eqb-false (rank file name x) 1 (sym (named_is file name x) ∙ f)) in
      rw f (none_named file name xs (λ k d lt. omega (arith, past, rises 0 (suc k) d (omega arith) (omega arith))))
]
found_at_point file name (x ∷ xs) (suc i) less rest rises =
    let lower : rank file name x < 1 = ltb-true _ _ (less 0 x (omega arith)) in
    let other : bytes_eq name (name_of file x) ≡ false =
    named_is file name x ∙ ne_eqb (rank file name x) 1 (λ e. omega (arith, e, lower)) in
    rw other (found_at_point file name xs i (λ k d lt. less (suc k) d (omega arith))
    (λ k d le lt. rest (suc k) d (omega arith) (omega arith))
    (λ j k d le lt. rises (suc j) (suc k) d (omega arith) (omega arith)))

rises : (file name : List ℕ) (xs : List Named) → AreByName file xs → IsNonDecreasingBy (rank file name) xs
rises file name xs sorted = searchable_from_sorted nat_list_cmp_total (name_of file) xs name sorted

-- the symbol's name comes before the name
abbrev pub is_before : List ℕ → List ℕ → Named → Bool
is_before file name n = is_lt (compared (name_of file n) name)

pub parted : (file name : List ℕ) (xs : List Named) → AreByName file xs → IsPartitionedBy (is_before file name) xs
parted file name xs sorted i j d le lt e =
    let by_rank = IsPartitionedBy-ltb (rank file name) xs 1 (rises file name xs sorted) in
    index_of_less (compared (name_of file (get_or xs i d)) name)
    ∙ by_rank i j d le lt (sym (index_of_less (compared (name_of file (get_or xs j d)) name)) ∙ e)

pub found_by_halving : (file name : List ℕ) (xs : List Named) (i : ℕ) → AreByName file xs
    → IsPartitionPoint (λ n. is_before file name n ≡ true) (λ n. is_before file name n ≡ false) xs i
    → address_of (spelled_one file (slice_get xs i)) name ≡ address_of (spelled file xs) name
found_by_halving file name xs i sorted point =
    found_at_point file name xs i
    (λ k d lt. sym (index_of_less (compared (name_of file (get_or xs k d)) name)) ∙ point.0 k d (omega arith) lt)
    (λ k d le lt. sym (index_of_less (compared (name_of file (get_or xs k d)) name)) ∙ point.1 k d le lt)
    (rises file name xs sorted)

nothing_past : (xs : List Named) (i : ℕ) → length xs ≤ i → None ≡ slice_get xs i
nothing_past [] i past = refl
nothing_past (x ∷ xs) zero past = absurd (omega arith)
nothing_past (x ∷ xs) (suc i) past = nothing_past xs i (omega arith)

-- what `get` lends is what is there
pub lent : (xs : List Named) (i : ℕ) (o : Option (Bor Named)) → IsItemAt xs i o → option_copied o ≡ slice_get xs i
lent xs i None at = nothing_past xs i at.3
lent xs i (Some x) at = ap Some at.1 ∙ sym (slice_get-get_or xs i x.now at.3.0)
