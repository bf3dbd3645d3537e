-- What a search among pages finds, and what the list stores after an edit at that index. Each claim on `stored` goes by
-- induction on the list, with the index falling beside it: no page before the index has the number. `grind` is left
-- with tests of numbers.
use Rattle.std.proofs.Common.{◌≡◌, ℕ, zero, suc, ◌+◌, ◌-◌, ◌*◌, ◌/◌, ◌%◌, ◌<◌, ◌≤◌, ◌≢◌, cond, eqb, Bool, true, false, List, [], ◌∷◌, map, length, get_or, set, Result, Ok, Err, IfOk, IfErr, refl, ap, sym, inl, inr, subst, ◌∙◌, arith}
use Rattle.std.specs.List.{insert}
use Rattle.std.specs.List.Sorted.{IsSearchInRange, IsBinarySearchResult, IsNonDecreasingBy}
use Rattle.std.specs.Ordering.{nat_cmp, ordering_index}
use Rattle.std.specs.declared.cmp.Ordering.TheVariants.{Less, Equal, Greater}
use Rattle.std.proofs.lemmas.Cmp.{ranked}
use Rattle.std.proofs.lemmas.List.{get_or-map}
use Rattle.std.proofs.lemmas.Bool.Decides.{nat_tests}
use Rattle.kc_mem.specs.declared.pages.Page.{Page}
use Rattle.kc_mem.specs.PageSteps.{stored, numbers_of, number_at, AreRising, IsAt, IsGapFor}

-- no page before index i has this number
abbrev pub NoneBefore : List Page → ℕ → ℕ → Type 0
NoneBefore ps n i = (j : ℕ) → j < i → number_at ps j ≢ n

none_before_tail : (p : Page) (ps : List Page) (n i : ℕ) → NoneBefore (p ∷ ps) n (suc i) → NoneBefore ps n i
none_before_tail p ps n i none j lt = none (suc j) (omega arith)

is_at_tail : (p : Page) (ps : List Page) (n i : ℕ) → IsAt (p ∷ ps) n (suc i) → IsAt ps n i
is_at_tail p ps n i at = record { in_range = omega (arith, at.in_range); is = at.is }

-- where no page has the number, nothing is stored
pub stored_absent : (ps : List Page) (q : ℕ) → NoneBefore ps (q / 4096) (length ps) → stored ps q ≡ 0
stored_absent [] q none = refl
stored_absent (p ∷ ps) q none =
    grind (arith, nat_tests, none 0 (omega arith), stored_absent ps q (none_before_tail p ps _ _ none))

-- the first page of the number has the byte
pub stored_present : (ps : List Page) (q i : ℕ) (d : Page) → IsAt ps (q / 4096) i → NoneBefore ps (q / 4096) i
    → stored ps q ≡ get_or (get_or ps i d).bytes.items (q % 4096) 0
stored_present [] q i d at none = absurd (omega (arith, at.in_range))
stored_present (p ∷ ps) q zero d at none = grind (arith, nat_tests, at.is)
stored_present (p ∷ ps) q (suc i) d at none = grind (
  arith,
  nat_tests,
  none 0 (omega arith),
  stored_present ps q i d (is_at_tail p ps _ i at) (none_before_tail p ps _ i none),
)

-- what a page n in the list stores in place of what it stored
abbrev pub stored_with : Page → ℕ → ℕ → ℕ
stored_with n q rest = cond (eqb n.number (q / 4096)) (get_or n.bytes.items (q % 4096) 0) rest

pub stored-set : (ps : List Page) (n : Page) (i q : ℕ) → IsAt ps n.number i → NoneBefore ps n.number i
    → stored (set ps i n) q ≡ stored_with n q (stored ps q)
stored-set [] n i q at none = absurd (omega (arith, at.in_range))
stored-set (p ∷ ps) n zero q at none = grind (arith, nat_tests, at.is)
stored-set (p ∷ ps) n (suc i) q at none = grind (
  arith,
  nat_tests,
  none 0 (omega arith),
  stored-set ps n i q (is_at_tail p ps _ i at) (none_before_tail p ps _ i none),
)

pub stored-insert : (ps : List Page) (n : Page) (i q : ℕ) → NoneBefore ps n.number i → stored (insert ps i n) q
    ≡ stored_with n q (stored ps q)
stored-insert ps n zero q none = refl
stored-insert [] n (suc i) q none = refl
stored-insert (p ∷ ps) n (suc i) q none =
    grind (arith, nat_tests, none 0 (omega arith), stored-insert ps n i q (none_before_tail p ps _ i none))

pub number_is : (ps : List Page) (i : ℕ) (d : Page) → i < length ps → (get_or ps i d).number ≡ number_at ps i
number_is ps i d lt = sym (get_or-map (λ (p : Page). p.number) ps i d 0 lt)

-- a list with an index has a page
pub some_page : (ps : List Page) (i : ℕ) → i < length ps → Page
some_page [] i lt = absurd (omega arith)
some_page (p ∷ ps) i lt = p

module _ (ps : List Page) (rising : AreRising ps) (n : ℕ) where
  pub none_before_at : (i : ℕ) → IsAt ps n i → NoneBefore ps n i
  none_before_at i at j lt same = omega (arith, rising j i lt at.in_range, at.is)

  -- the comparisons with n rise along the list, as a binary search asks
  comparisons_rise : IsNonDecreasingBy (λ (p : Page). ordering_index (nat_cmp p.number n)) ps
  comparisons_rise i j d le lt =
      let numbers_rise : number_at ps i ≤ number_at ps j = grind (
        arith,
        rising i j,
        λ (same : i ≡ j). ap (number_at ps) same,
      ) in
      let first = number_is ps i d (omega arith) in
      let second = number_is ps j d lt in
      grind (arith, nat_tests)

  found_at : (i : ℕ) → i < length ps → ((d : Page) → nat_cmp (get_or ps i d).number n ≡ Equal) → number_at ps i ≡ n
  found_at i lt equal =
      let d = some_page ps i lt in
      sym (number_is ps i d lt) ∙ ranked _ n _ (sym (equal d))

  less_at : (i : ℕ) → i < length ps → ((d : Page) → nat_cmp (get_or ps i d).number n ≡ Less) → number_at ps i < n
  less_at i lt less =
      let d = some_page ps i lt in
      subst (λ k. k < n) (number_is ps i d lt) (ranked _ n _ (sym (less d)))

  greater_at : (i : ℕ) → i < length ps → ((d : Page) → nat_cmp (get_or ps i d).number n ≡ Greater) → n < number_at ps i
  greater_at i lt greater =
      let d = some_page ps i lt in
      subst (λ k. n < k) (number_is ps i d lt) (ranked _ n _ (sym (greater d)))

  -- a binary search by number ends at the page, or at the gap for it
  pub searched : (r : Result ℕ ℕ) → IsSearchInRange r (length ps)
      → IsBinarySearchResult (λ (p : Page). nat_cmp p.number n) ps r → record {
        found : IfOk r (IsAt ps n);
        absent : IfErr r (IsGapFor ps n);
      }
  searched (Ok at) in_range equal =
      record { found = record { in_range = in_range; is = found_at at in_range equal }; absent = tt }
  searched (Err at) in_range parted = record {
    found = tt;
    absent = record {
      in_range = in_range;
      below = λ j lt. less_at j (omega arith) (λ d. (parted comparisons_rise).0 j d (omega arith) lt);
      above = λ j le lt. greater_at j lt (λ d. (parted comparisons_rise).1 j d le lt);
    };
  }

pub none_in_gap : (ps : List Page) (n i : ℕ) → IsGapFor ps n i → (j : ℕ) → j < length ps → number_at ps j ≢ n
none_in_gap ps n i gap j lt same = grind (arith, gap.below j, gap.above j)
