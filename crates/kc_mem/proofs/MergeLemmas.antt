-- New pages put into a list: appended, then sorted by number. The numbers of both are distinct, so they rise strictly
-- once they don't fall. What is stored at an address goes by the page that the list contains for it: one of the old
-- pages, which a permutation keeps, or one of zeros.
use Rattle.std.proofs.Common.{◌≡◌, ℕ, zero, suc, ◌+◌, ◌-◌, ◌*◌, ◌/◌, ◌%◌, ◌<◌, ◌≤◌, ◌≢◌, ◌⊎◌, eqb, Bool, true, false, List, [], ◌∷◌, ◌++◌, map, length, get_or, refl, ap, sym, inl, inr, subst, ◌∙◌, arith, add-one, drop, Result, Ok, Err, IfOk}
use Rattle.std.specs.List.{All, Contains, IsDistinct, AllByRecursion}
use Rattle.std.specs.List.Sorted.{IsPermutation, IsNonDecreasing, IsNonDecreasingBy, IsStrictlyIncreasing}
use Rattle.std.proofs.lemmas.Bool.{cases_lt}
use Rattle.std.proofs.lemmas.Bool.Decides.{nat_tests}
use Rattle.std.proofs.lemmas.List.{length-map, get_or_default, get_or-map, map-append}
use Rattle.std.proofs.lemmas.List.Elements.{All-append, All-from_recursion, recursion_from_All, All-from_get_or, Contains-get_or, Contains-append_left, Contains-append_right, Contains-append_cases}
use Rattle.std.proofs.lemmas.List.Sorted.{IsPermutation-map, IsPermutation-sym, Contains-permutation, All-permutation}
use Rattle.std.proofs.lemmas.List.Kept.{AllPairs-from_increasing}
use Rattle.std.proofs.lemmas.Map.Keys.{IsDistinct-from_apart, IsDistinct-IsPermutation, IsStrictlyIncreasing-from_distinct}
use Rattle.kc_mem.specs.declared.pages.Page.{Page}
use Rattle.kc_mem.specs.Memory.{Bytes, put, put_all}
use Rattle.kc_mem.specs.PageSteps.{bytes_of, stored, numbers_of, number_at, AreRising, AreZeros, IsWhole, ArePages, AreMissing, HavePages, IsAt, HasPage}
use Rattle.kc_mem.proofs.BytesLemmas.{held, same_bytes}
use Rattle.kc_mem.proofs.PagesLemmas.{get-bytes_of}
use Rattle.kc_mem.proofs.PlaceLemmas.{number_is, some_page, stored_present, stored_absent, none_before_at}
use Rattle.kc_mem.proofs.EditLemmas.{NumbersRise, rising_numbers, numbers_rising, whole_zeros}

distinct : (ns : List ℕ) → NumbersRise ns → IsDistinct eqb ns
distinct ns rise = IsDistinct-from_apart eqb ns (λ i j d lt in_range.
    let first = get_or_default ns i d 0 (omega arith) in
    let second = get_or_default ns j d 0 in_range in
    let less = rise i j lt in_range in
    grind (arith, nat_tests))

distinct_append : (xs ns : List ℕ) → IsDistinct eqb xs → IsDistinct eqb ns
    → ((i j : ℕ) → i < length xs → j < length ns → get_or xs i 0 ≢ get_or ns j 0) → IsDistinct eqb (xs ++ ns)
unfolding IsDistinct
distinct_append [] ns dx dn apart = dn
distinct_append (x ∷ xs) ns dx dn apart =
    let differs : All (λ y. eqb x y ≡ false) ns = All-from_get_or (λ y. eqb x y ≡ false) ns 0 (λ j lt. let other =
    apart 0 j (omega arith) lt in grind (arith, nat_tests)) in (
      recursion_from_All (λ y. eqb x y ≡ false) (xs ++ ns)
          (All-append (λ y. eqb x y ≡ false) xs ns (All-from_recursion (λ y. eqb x y ≡ false) xs dx.0) differs),
      distinct_append xs ns dx.1 dn (λ i j l m. apart (suc i) j (omega arith) m),
    )

pub contains_page : (ps : List Page) (n : ℕ) → HasPage ps n → (p : Page) × Contains ps p × (p.number ≡ n)
contains_page ps n (i, at) =
    let d = some_page ps i at.in_range in
    (get_or ps i d, Contains-get_or ps i d at.in_range, number_is ps i d at.in_range ∙ at.is)

pub has_page : (ps : List Page) (p : Page) (n : ℕ) → Contains ps p → p.number ≡ n → HasPage ps n
has_page ps p n (k, lt, is) same =
    (k, record { in_range = lt; is = sym (number_is ps k p lt) ∙ ap (λ (x : Page). x.number) is ∙ same })

-- each number of the list is a page's
has_number : (ps : List Page) (i : ℕ) → i < length ps → HasPage ps (number_at ps i)
has_number ps i lt = (i, record { in_range = lt; is = refl })

stored_of : (ps : List Page) (p : Page) (q : ℕ) → AreRising ps → Contains ps p → p.number ≡ q / 4096
    → stored ps q ≡ get_or p.bytes.items (q % 4096) 0
unfolding has_page
stored_of ps p q rising (k, lt, is) same =
    let at : IsAt ps (q / 4096) k = (has_page ps p (q / 4096) (k, lt, is) same).1 in
    stored_present ps q k p at (none_before_at ps rising (q / 4096) k at)
    ∙ ap (λ (x : Page). get_or x.bytes.items (q % 4096) 0) is

found : (ps : List Page) (n : ℕ) → HasPage ps n ⊎ ((j : ℕ) → j < length ps → number_at ps j ≢ n)
found [] n = inr (λ j lt. absurd (omega arith))
found (p ∷ ps) n = by_head (eqb p.number n) refl (found ps n)
  where
    by_head : (b : Bool) → eqb p.number n ≡ b → HasPage ps n ⊎ ((j : ℕ) → j < length ps → number_at ps j ≢ n)
        → HasPage (p ∷ ps) n ⊎ ((j : ℕ) → j < length (p ∷ ps) → number_at (p ∷ ps) j ≢ n)
    by_head true is rest = inl (0, record { in_range = omega arith; is = grind (arith, nat_tests) })
    by_head false is (inl (i, at)) = inl (suc i, record { in_range = omega (arith, at.in_range); is = at.is })
    by_head false is (inr none) = inr (λ j. none_at j)
      where
        none_at : (j : ℕ) → j < length (p ∷ ps) → number_at (p ∷ ps) j ≢ n
        none_at zero lt same = grind (arith, nat_tests)
        none_at (suc j) lt same = none j (omega arith) same

module _ (old more new : List Page) (are : ArePages old) (missing : AreMissing old more)
    (moved : IsPermutation (old ++ more) new)
    (sorted : IsNonDecreasingBy (λ (p : Page). p.number) new) where
  numbers_distinct : IsDistinct eqb (numbers_of new)
  numbers_distinct =
      let apart : (i j : ℕ) → i < length (numbers_of old) → j < length (numbers_of more) → get_or (numbers_of old) i 0
      ≢ get_or (numbers_of more) j 0 =
      λ i j l m same. missing.apart _ (has_number old i (omega (arith, length-map old (λ (p : Page). p.number))))
      (subst (HasPage more) (sym same) (has_number more j (omega (arith, length-map more (λ (p : Page). p.number))))) in
      let both = distinct_append (numbers_of old) (numbers_of more) (distinct _ (rising_numbers old are.rising))
      (distinct _ (rising_numbers more missing.rising)) apart in
      let all : IsDistinct eqb (numbers_of (old ++ more)) =
      subst (IsDistinct eqb) (sym (map-append (λ (p : Page). p.number) old more)) both in
      IsDistinct-IsPermutation eqb (λ x y. grind (arith, nat_tests)) _ _
      (IsPermutation-map (λ (p : Page). p.number) (old ++ more) new moved) all

  numbers_sorted : IsNonDecreasing (numbers_of new)
  numbers_sorted i j d le lt =
      let size = length-map new (λ (p : Page). p.number) in
      let page = some_page new j (omega arith) in
      let first = get_or-map (λ (p : Page). p.number) new i page d (omega arith) in
      let second = get_or-map (λ (p : Page). p.number) new j page d (omega arith) in
      omega (arith, first, second, sorted i j page le (omega arith))

  pub merged_rising : AreRising new
  merged_rising = numbers_rising new (λ i j lt in_range.
      AllPairs-from_increasing (numbers_of new) (IsStrictlyIncreasing-from_distinct (numbers_of new) numbers_sorted
      numbers_distinct) i j 0 lt in_range)

  whole_more : All IsWhole more
  whole_more k d lt = whole_zeros (get_or more k d) (missing.zeros k d lt)

  pub merged_pages : ArePages new
  merged_pages = record {
    rising = merged_rising;
    whole = All-permutation IsWhole (old ++ more) new moved (All-append IsWhole old more are.whole whole_more);
  }

  pub merged_there : (n : ℕ) → HasPage old n ⊎ HasPage more n → HasPage new n
  merged_there n (inl has) =
      let p = contains_page old n has in
      has_page new p.0 n (Contains-permutation _ _ p.0 moved (Contains-append_left old more p.0 p.1)) p.2
  merged_there n (inr has) =
      let p = contains_page more n has in
      has_page new p.0 n (Contains-permutation _ _ p.0 moved (Contains-append_right old more p.0 p.1)) p.2

  -- an old page that has the address is among the new ones
  stored_old : (q : ℕ) → HasPage old (q / 4096) → stored new q ≡ stored old q
  stored_old q has =
      let p = contains_page old (q / 4096) has in
      stored_of new p.0 q merged_rising (Contains-permutation _ _ p.0 moved (Contains-append_left old more p.0 p.1)) p.2
      ∙ sym (stored_of old p.0 q are.rising p.1 p.2)

  -- where no old page has it, a new one stores 0
  stored_more : (q : ℕ) → ((j : ℕ) → j < length old → number_at old j ≢ q / 4096) → HasPage new (q / 4096)
      ⊎ ((j : ℕ) → j < length new → number_at new j ≢ q / 4096) → stored new q ≡ 0
  unfolding has_page
  stored_more q none (inr gone) = stored_absent new q gone
  stored_more q none (inl has) =
      let p = contains_page new (q / 4096) has in
      by_side p.0 p.1 p.2 (Contains-append_cases old more p.0
      (Contains-permutation _ _ p.0 (IsPermutation-sym _ _ moved) p.1))
    where
      by_side : (p : Page) → Contains new p → p.number ≡ q / 4096 → Contains old p ⊎ Contains more p → stored new q ≡ 0
      by_side p there same (inl (k, lt, is)) = absurd (none k lt ((has_page old p _ (k, lt, is) same).1.is))
      by_side p there same (inr (k, lt, is)) =
          let zeros = missing.zeros k p lt in
          stored_of new p q merged_rising there same ∙ sym (ap (λ (x : Page). get_or x.bytes.items (q % 4096) 0) is)
          ∙ zeros.zeros (q % 4096)

  stored_merged : (q : ℕ) → HasPage old (q / 4096) ⊎ ((j : ℕ) → j < length old → number_at old j ≢ q / 4096)
      → stored new q ≡ stored old q
  stored_merged q (inl has) = stored_old q has
  stored_merged q (inr none) = stored_more q none (found new (q / 4096)) ∙ sym (stored_absent old q none)

  pub merged_bytes : bytes_of new ≡ bytes_of old
  merged_bytes = same_bytes _ _ (λ q. get-bytes_of new merged_pages.whole q
      ∙ ap held (stored_merged q (found old (q / 4096))) ∙ sym (get-bytes_of old are.whole q))

-- what holds of a list's elements holds of those of a list with no others
all_from_contains : {X : Type 0} (P : X → Type 0) (xs ys : List X) → ((x : X) → Contains ys x → Contains xs x)
    → All P xs → All P ys
all_from_contains P xs ys sub all k d lt =
    let there = sub (get_or ys k d) (Contains-get_or ys k d lt) in subst P there.2 (all there.0 (get_or ys k d) there.1)

-- pages of numbers that rise, and that the list lacks
pub missing_made : (ps more : List Page) (numbers ns : List ℕ) → numbers_of more ≡ ns → IsStrictlyIncreasing ns
    → All (λ (p : Page). AreZeros p.bytes.items) more → ((n : ℕ) → Contains ns n → Contains numbers n)
    → All (λ n. ¬ HasPage ps n) numbers → AreMissing ps more
missing_made ps more numbers ns is rises zeros adds_none absent = record {
  rising = numbers_rising more (λ i j lt in_range. AllPairs-from_increasing (numbers_of more)
      (subst IsStrictlyIncreasing (sym is) rises) i j 0 lt in_range);
  zeros = zeros;
  apart = λ n has in_more. lacks n has in_more.0 in_more.1;
}
  where
    none : All (λ n. ¬ HasPage ps n) (numbers_of more)
    none =
        subst (All (λ n. ¬ HasPage ps n)) (sym is) (all_from_contains (λ n. ¬ HasPage ps n) numbers ns adds_none absent)

    lacks : (n : ℕ) → HasPage ps n → (i : ℕ) → IsAt more n i → ⊥
    lacks n has i at = none i 0 (omega (
      arith,
      at.in_range,
      length-map more (λ (p : Page). p.number),
    )) (subst (HasPage ps) (sym at.is) has)

-- a number of the list is a page's
pub has_numbered : (more : List Page) (ns : List ℕ) (n : ℕ) → numbers_of more ≡ ns → Contains ns n → HasPage more n
has_numbered more ns n is (k, lt, same) =
    let size = length-map more (λ (p : Page). p.number) in
    let within : k < length (numbers_of more) = subst (λ xs. k < length xs) (sym is) lt in (
      k,
      record {
        in_range = omega arith;
        is = get_or_default (numbers_of more) k 0 n within ∙ ap (λ xs. get_or xs k n) is ∙ same;
      },
    )

pub have_pages : (ps more : List Page) (numbers ns : List ℕ) (writes : List (ℕ × ℕ)) → numbers_of more ≡ ns
    → ((n : ℕ) → Contains numbers n → Contains ns n)
    → All (λ w. HasPage ps (w.0 / 4096) ⊎ Contains numbers (w.0 / 4096)) writes → HavePages ps more writes
have_pages ps more numbers ns writes is keeps enough k d lt = by_side (get_or writes k d) (enough k d lt)
  where
    by_side : (w : ℕ × ℕ) → HasPage ps (w.0 / 4096) ⊎ Contains numbers (w.0 / 4096) → HasPage ps (w.0 / 4096)
        ⊎ HasPage more (w.0 / 4096)
    by_side w (inl has) = inl has
    by_side w (inr listed) = inr (has_numbered more ns (w.0 / 4096) is (keeps (w.0 / 4096) listed))

pub ok_both : {A E : Type 0} (r : Result A E) (P Q R : A → Type 0) → ((x : A) → P x → Q x → R x) → IfOk r P → IfOk r Q
    → IfOk r R
ok_both (Ok x) P Q R f p q = f x p q
ok_both (Err e) P Q R f p q = tt

-- a page stays where the numbers stay
pub has_page_same : (ps qs : List Page) (n : ℕ) → numbers_of qs ≡ numbers_of ps → HasPage ps n → HasPage qs n
has_page_same ps qs n same (i, at) =
    let size = length-map ps (λ (p : Page). p.number) in
    let other = length-map qs (λ (p : Page). p.number) in
    (i, record { in_range = omega (arith, at.in_range, ap length same); is = ap (λ ns. get_or ns i 0) same ∙ at.is })

-- one write more
drop_more : (m : Bytes) (ws : List (ℕ × ℕ)) (i : ℕ) → i < length ws
    → put_all (put m (get_or ws i (0, 0)).0 (get_or ws i (0, 0)).1) (drop (suc i) ws) ≡ put_all m (drop i ws)
drop_more m [] i lt = absurd (omega arith)
drop_more m (w ∷ ws) zero lt = refl
drop_more m (w ∷ ws) (suc i) lt = drop_more m ws i (omega arith)

pub put_all_more : (m : Bytes) (ws : List (ℕ × ℕ)) (i : ℕ) → i < length ws
    → put_all (put m (get_or ws i (0, 0)).0 (get_or ws i (0, 0)).1) (drop (i + 1) ws) ≡ put_all m (drop i ws)
put_all_more m ws i lt = ap (λ k. put_all (put m (get_or ws i (0, 0)).0 (get_or ws i (0, 0)).1) (drop k ws)) (add-one i)
    ∙ drop_more m ws i lt
