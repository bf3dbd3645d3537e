-- The order of regions. A sorted permutation of their numbers is an order. Since no two regions meet, an address has at
-- most one holder; a search by first address finds it, since a region that begins later and holds the address would
-- meet it. Look-ups by region and by stack are then std's first places that pass a test.
use Rattle.std.proofs.Common.{◌≡◌, ℕ, zero, suc, ◌-◌, ◌<◌, ◌≤◌, inl, inr, Bool, true, false, cond, leb, ltb, List, [], ◌∷◌, length, slice_index, slice_index_or, slice_get, take, filter, position, Some, None, refl, sym, ◌∙◌, ap, subst, arith, All, Contains}
use Rattle.std.specs.List.{position_or_len, refill}
use Rattle.std.specs.List.Sorted.{IsPermutation, IsNonDecreasingBy, IsPartitionPoint}
use borrow.Author.Tests.{leb-true, leb-false}
use Rattle.std.proofs.lemmas.Bool.Decides.{nat_tests}
use Rattle.std.proofs.lemmas.Bool.{cases_lt}
use Rattle.std.proofs.lemmas.Grind.{common_steps, get_or_default_zero}
use Rattle.std.proofs.lemmas.List.{get_or-take}
use Rattle.std.proofs.lemmas.List.Folds.{find_at}
use Rattle.std.proofs.lemmas.List.Sums.{position_or_len_is}
use Rattle.std.proofs.lemmas.List.Sorted.{IsNonDecreasingBy-from_default, All-permutation, Contains-permutation}
use Rattle.std.proofs.lemmas.Option.{slice_get-get_or, slice_get_past, get_or_from_slice_get}
use Rattle.kc_words.specs.Range.{Range}
use Rattle.kc_words.specs.Span.{Holds}
use Rattle.kc_regions.specs.declared.region.Region.{Region}
use Rattle.kc_regions.specs.Region.{holds, is_stack, region_of, stacks_of, stack_of}
use Rattle.kc_regions.specs.Regions.{AreRegions}
use Rattle.kc_regions.specs.Order.{first_of, number_of, number_at, IsOrder, AreUpTo, IsHolder, NoneHolds, IsCut}

pub order-is : (list : List Region) (from to : List ℕ) → AreUpTo (length list) from → IsPermutation from to
    → IsNonDecreasingBy (first_of list) to → IsOrder list to
order-is list from to up perm rising = record {
  numbers = λ k below. All-permutation (λ x. x < length list) from to perm small k 0 below;
  rising = λ j k le below. rising j k 0 le below;
  all = λ i below. found i (Contains-permutation from to i perm (
    i,
    omega (arith, up.count),
    get_or_default_zero from i i (omega (arith, up.count)) ∙ up.each i below,
  ));
}
  where
    small : All (λ x. x < length list) from
    small k d below =
        let e = get_or_default_zero from k d below in omega (arith, e, up.count, up.each k (omega (arith, up.count)))

    found : (i : ℕ) → Contains to i → (k : ℕ) × (k < length to) × (slice_index to k ≡ i)
    found i (k, below, is) = (k, below, sym (get_or_default_zero to k i below) ∙ is)

-- the region number i begins where its span does
pub begins-at : (list : List Region) (i : ℕ) (d : Region) → i < length list → first_of list i
    ≡ (slice_index_or list i d).span.from
begins-at list i d below = rw (slice_get-get_or list i d below) refl

-- what holds at one default holds at each
pub holder-of : (list : List Region) (a i : ℕ) (d : Region) → i < length list → Holds (slice_index_or list i d).span a
    → IsHolder list a i
holder-of list a i d inside held = record {
  inside = inside;
  holds = λ e. subst (λ r. Holds r.span a) {x = slice_index_or list i d}
      (sym (get_or_from_slice_get list i (slice_index_or list i d) e (slice_get-get_or list i d inside))) held;
}

module _ (list : List Region) (regions : AreRegions list) where
  -- an address that two regions hold is held by one
  later-apart : (a i j : ℕ) (d : Region) → i < j → IsHolder list a i → IsHolder list a j → ⊥
  later-apart a i j d less hi hj =
      let none = regions.apart j d hj.inside i d (omega (arith, less, hj.inside, length-take-below)) in
      none (
        a,
        subst (λ r. Holds r.span a) {x = slice_index_or list i d} (sym (get_or-take j list i d less)) (hi.holds d),
        hj.holds d,
      )
    where
      length-take-below : i < length (take j list)
      length-take-below = grind (arith, common_steps, less, hj.inside)

  pub one-holder : (a i j : ℕ) (d : Region) → IsHolder list a i → IsHolder list a j → i ≡ j
  one-holder a i j d hi hj = elim (cases_lt i j) [
    | inl less ↦ absurd (later-apart a i j d less hi hj)
    | inr ge ↦ elim (cases_lt j i) [
      | inl more ↦ absurd (later-apart a j i d more hj hi)
      | inr le ↦ omega arith
    ]
  ]

-- in an order numbers don't fall by first address
pub rises : (list : List Region) (order : List ℕ) → IsOrder list order → IsNonDecreasingBy (first_of list) order
rises list order o = IsNonDecreasingBy-from_default (first_of list) order 0 (λ i j le below. o.rising i j le below)

-- what a search by first address answers
pub cut-is : (list : List Region) (order : List ℕ) (a n : ℕ) → n ≤ length order
    → IsPartitionPoint (λ i. leb (first_of list i) a ≡ true) (λ i. leb (first_of list i) a ≡ false) order n
    → IsCut list order a n
cut-is list order a n inside p = record {
  inside = inside;
  below = λ k less. leb-true _ _ (p.0 k 0 (omega arith) less);
  above = λ k ge less. leb-false _ _ (p.1 k 0 ge less);
}

-- no region begins at or below the address
pub none-begun : (list : List Region) (order : List ℕ) (a n : ℕ) → IsOrder list order → IsCut list order a n → n ≡ 0
    → NoneHolds list a
none-begun [] order a n o cut none i h = absurd (omega (arith, h.inside))
none-begun (d ∷ list) order a n o cut none i h =
    let place = o.all i h.inside in
    let first = begins-at (d ∷ list) i d h.inside in
    let above = cut.above place.0 (omega arith) place.1 in
    let is : first_of (d ∷ list) (slice_index order place.0) ≡ first_of (d ∷ list) i =
    ap (first_of (d ∷ list)) place.2 in
    omega (arith, above, is, first, (h.holds d).0)

-- the last region that begins at or below the address doesn't hold it: an earlier one that did would hold the first
-- byte of that one
pub none-left : (list : List Region) (order : List ℕ) (a n i : ℕ) → AreRegions list → IsOrder list order
    → IsCut list order a n
    → 0 < n → i ≡ slice_index order (n - 1) → (IsHolder list a i → ⊥) → NoneHolds list a
none-left [] order a n i regions o cut some is not_i j h = absurd (omega (arith, h.inside))
none-left (d ∷ list) order a n i regions o cut some is not_i j h = not_i (subst (IsHolder (d ∷ list) a) (sym same) h)
  where
    l : List Region
    l = d ∷ list

    place : (k : ℕ) × (k < length order) × (slice_index order k ≡ j)
    place = o.all j h.inside

    same : i ≡ j
    same = elim (cases_lt place.0 n) [
      | inr ge ↦ absurd (omega (
        arith,
        cut.above place.0 ge place.1,
        ap (first_of l) place.2,
        begins-at l j d h.inside,
        (h.holds d).0,
      ))
      | inl less ↦
          let inside : i < length l = rw is (o.numbers (n - 1) (omega (arith, cut.inside))) in
          let some_byte = regions.filled i d inside in
          let begin_i = begins-at l i d inside in
          let begin_j = begins-at l j d h.inside in
          let before : first_of l j ≤ first_of l i = omega (
            arith,
            o.rising place.0 (n - 1) (omega arith) (omega (arith, cut.inside)),
            ap (first_of l) place.2,
            ap (first_of l) is,
          ) in
          let below : first_of l i ≤ a = omega (arith, cut.below (n - 1) (omega arith), ap (first_of l) is) in
          let held = h.holds d in
          one-holder l regions (first_of l i) i j d
          (holder-of l (first_of l i) i d inside (
            omega (arith, begin_i),
            omega (arith, begin_i, some_byte.1.0, some_byte.1.1),
          ))
          (holder-of l (first_of l i) j d h.inside (omega (arith, begin_j), omega (arith, held.1)))
    ]

-- at most so many of the first i elements pass
pub few-pass : {X : Type 0} (p : X → Bool) (xs : List X) (i : ℕ) → length (filter p (take i xs)) ≤ i
few-pass p xs zero = omega arith
few-pass p [] (suc i) = omega arith
few-pass p (x ∷ xs) (suc i) = grind (arith, nat_tests, few-pass p xs i)

-- a list that is refilled by one of its own length is that one
pub refilled : (xs ws : List ℕ) → length ws ≡ length xs → refill (length xs) xs ws ≡ ws
refilled xs ws same = grind (arith, common_steps, same)

pub holds-true : (s : Range) (a : ℕ) → Holds s a → holds s a ≡ true
holds-true s a h = grind (arith, nat_tests, h.0, h.1)

pub true-holds : (s : Range) (a : ℕ) → holds s a ≡ true → Holds s a
true-holds s a h = (grind (arith, nat_tests, h), grind (arith, nat_tests, h))

not-true : (b : Bool) → (b ≡ true → ⊥) → b ≡ false
not-true true h = absurd (h refl)
not-true false h = refl

-- a region other than the holder of the address doesn't hold it
others : (list : List Region) → AreRegions list → (a i k : ℕ) (d : Region) → IsHolder list a i → k < length list
    → (k ≡ i → ⊥)
    → holds (slice_index_or list k d).span a ≡ false
others list regions a i k d h inside other =
    not-true _ (λ held. other (one-holder list regions a k i d (holder-of list a k d inside (true-holds _ a held)) h))

-- where none holds the address, none passes the test
none-passes : (list : List Region) (a k : ℕ) (d : Region) → NoneHolds list a → k < length list
    → holds (slice_index_or list k d).span a ≡ false
none-passes list a k d none inside = not-true _ (λ held. none k (holder-of list a k d inside (true-holds _ a held)))

pub region-held : (list : List Region) (a i : ℕ) → AreRegions list → IsHolder list a i → slice_get list i
    ≡ region_of list a
region-held [] a i regions h = absurd (omega (arith, h.inside))
region-held (d ∷ list) a i regions h =
    let p = λ (r : Region). holds r.span a in
    let l = d ∷ list in
    let first = position_or_len_is p l i d (omega (arith, h.inside))
    (λ k less. others l regions a i k d h (omega (arith, h.inside)) (λ same. omega arith))
    (λ inside. holds-true _ a (h.holds d)) in
    sym (find_at p l ∙ ap (slice_get l) first)

pub region-none : (list : List Region) (a : ℕ) → NoneHolds list a → None ≡ region_of list a
region-none [] a none = refl
region-none (d ∷ list) a none =
    let p = λ (r : Region). holds r.span a in
    let l = d ∷ list in
    let first = position_or_len_is p l (length l) d (omega arith) (λ k less. none-passes l a k d none less)
    (λ inside. absurd (omega arith)) in
    sym (find_at p l ∙ ap (slice_get l) first ∙ slice_get_past l (length l) (omega arith))

-- the place, among those that pass q, of the first element that passes p, where that one passes q
place-filter : {X : Type 0} (p q : X → Bool) (xs : List X) (i : ℕ) (d : X) → i < length xs → q (slice_index_or xs i d)
    ≡ true
    → p (slice_index_or xs i d) ≡ true → ((k : ℕ) → k < i → p (slice_index_or xs k d) ≡ false)
    → (position_or_len p (filter q xs) ≡ length (filter q (take i xs)))
    × (length (filter q (take i xs)) < length (filter q xs))
place-filter p q [] i d inside kept found before = absurd (omega (arith, inside))
place-filter p q (x ∷ xs) zero d inside kept found before = grind (arith, kept, found)
place-filter p q (x ∷ xs) (suc i) d inside kept found before =
    let ih = place-filter p q xs i d (omega (arith, inside)) kept found (λ k less. before (suc k) (omega arith)) in
    grind (arith, ih.0, ih.1, before 0 (omega arith))

-- none of those that pass q passes p
none-filter : {X : Type 0} (p q : X → Bool) (xs : List X) (d : X)
    → ((k : ℕ) → k < length xs → q (slice_index_or xs k d) ≡ true → p (slice_index_or xs k d) ≡ false)
    → position_or_len p (filter q xs) ≡ length (filter q xs)
none-filter p q [] d none = refl
none-filter p q (x ∷ xs) d none =
    let ih = none-filter p q xs d (λ k less. none (suc k) (omega arith)) in
    grind (arith, ih, none 0 (omega arith))

position-at : {X : Type 0} (p : X → Bool) (xs : List X) (n : ℕ) → position_or_len p xs ≡ n → n < length xs
    → position p xs ≡ Some n
position-at p xs n is inside =
    let less : ltb (position_or_len p xs) (length xs) ≡ true = grind (arith, nat_tests) in rw less (ap (λ k. Some k) is)

position-none : {X : Type 0} (p : X → Bool) (xs : List X) → position_or_len p xs ≡ length xs → position p xs ≡ None
position-none p xs is =
    let less : ltb (position_or_len p xs) (length xs) ≡ false = grind (arith, nat_tests) in rw less refl

-- the stack number of the address's holder, as its test answers b
held-number : (l : List Region) (a i : ℕ) (d : Region) → AreRegions l → IsHolder l a i → (b : Bool)
    → is_stack (slice_index_or l i d).kind ≡ b
    → cond b (Some (length (stacks_of (take i l)))) None ≡ stack_of l a
held-number l a i d regions h true is =
    let place = place-filter (λ r. holds r.span a) (λ r. is_stack r.kind) l i d h.inside is (holds-true _ a (h.holds d))
    (λ k less. others l regions a i k d h (omega (arith, h.inside)) (λ same. omega arith)) in
    sym (position-at (λ r. holds r.span a) (stacks_of l) (length (stacks_of (take i l))) place.0 place.1)
held-number l a i d regions h false is =
    sym (position-none (λ r. holds r.span a) (stacks_of l) (none-filter (λ r. holds r.span a) (λ r. is_stack r.kind) l d
    (λ k inside stack. others l regions a i k d h inside (λ same. not-both k same stack))))
  where
    not-both : (k : ℕ) → k ≡ i → is_stack (slice_index_or l k d).kind ≡ true → ⊥
    not-both k same stack =
        let other : is_stack (slice_index_or l i d).kind ≡ true =
        subst (λ n. is_stack (slice_index_or l n d).kind ≡ true) same stack in
        absurd (cc)

pub number-held : (list : List Region) (a i : ℕ) → AreRegions list → IsHolder list a i → number_at list i
    ≡ stack_of list a
number-held [] a i regions h = absurd (omega (arith, h.inside))
number-held (d ∷ list) a i regions h =
    ap (number_of (take i (d ∷ list))) (slice_get-get_or (d ∷ list) i d h.inside) ∙ held-number (d ∷ list) a i d regions
    h _ refl

pub number-none : (list : List Region) (a : ℕ) → NoneHolds list a → None ≡ stack_of list a
number-none [] a none = refl
number-none (d ∷ list) a none =
    let l = d ∷ list in
    sym (position-none _ _ (none-filter (λ r. holds r.span a) (λ r. is_stack r.kind) l d
    (λ k inside stack. none-passes l a k d none inside)))
