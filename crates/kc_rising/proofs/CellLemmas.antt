-- Lists of cells, each of which has a value and may have a next one, where one of them is replaced: what is read of
-- the others stays. A cell without a next value will be what it is.
use Rattle.std.proofs.Common.{◌≡◌, ◌≢◌, ◌↔◌, ℕ, zero, suc, ◌+◌, ◌-◌, ◌<◌, ◌≤◌, ◌||◌, IfSome, Bool, true, false, cond}
use Rattle.std.proofs.Common.{Option, None, Some, Result, Ok, Err, IfOk, is_some, List, [], ◌∷◌, ◌++◌, get_or, set}
use Rattle.std.proofs.Common.{map, length, sum_by, refl, ap, sym, ◌∙◌, arith}
use Rattle.std.proofs.Math.Seq.{map-set_same}
use Rattle.std.proofs.lemmas.Bool.{false≢true}
use Rattle.std.proofs.lemmas.List.{map-append, map-set, append_assoc, length-map, get_or-set_same, get_or-set_other}
use Rattle.std.proofs.lemmas.List.{get_or_default, get_or_append_left, get_or-append_right, set-append_left}
use Rattle.std.proofs.lemmas.List.{set-append_right, set_past}
use Rattle.std.proofs.lemmas.List.Sums.{sum_by-cons, sum_by-set}
use Rattle.kc_rising.specs.Listed.{AreListed}
use Rattle.kc_rising.specs.Values.{next_value, raised_at, has_risen, HasChanged}
use Rattle.kc_rising.proofs.ListedLemmas.{listed-pop}

-- the item that was read
pub get_or-map : {C A : Type 0} (cells : List C) (read : C → A) (i : ℕ) (x : C) (d : A) → i < length cells
    → x ≡ get_or cells i x → get_or (map read cells) i d ≡ read x
get_or-map [] read i x d h e = absurd (omega (arith, h))
get_or-map (y ∷ ys) read zero x d h e = λ i. read (sym e i)
get_or-map (y ∷ ys) read (suc n) x d h e = get_or-map ys read n x d (omega (arith, h)) e

pub sum_by-map : {A B : Type 0} (rank : B → ℕ) (read : A → B) (xs : List A)
    → sum_by rank (map read xs) ≡ sum_by (λ x. rank (read x)) xs
sum_by-map rank read [] = refl
sum_by-map rank read (x ∷ xs) =
    sum_by-cons rank (read x) (map read xs) ∙ ap (λ n. rank (read x) + n) (sum_by-map rank read xs)
    ∙ sym (sum_by-cons (λ y. rank (read y)) x xs)

-- y in the place of x
pub sum-set : {A B : Type 0} (xs : List A) (i : ℕ) (y x : A) (read : A → B) (rank : B → ℕ) → i < length xs
    → sum_by rank (map read (set xs i y)) + rank (read (get_or xs i x)) ≡ sum_by rank (map read xs) + rank (read y)
sum-set xs i y x read rank h =
    (λ k. sum_by-map rank read (set xs i y) k + rank (read (get_or xs i x)))
    ∙ sum_by-set (λ z. rank (read z)) xs i y x h
    ∙ (λ k. sym (sum_by-map rank read xs) k + rank (read y))

-- where one rank falls by 1 at least, or doesn't rise, the sum does so too
pub weighed : {E : Type 0} (r : Result Bool E) (new old sum_new sum_old : ℕ) → sum_new + old ≡ sum_old + new
    → IfOk r (λ rose. new + cond rose 1 0 ≤ old) → IfOk r (λ rose. sum_new + cond rose 1 0 ≤ sum_old)
weighed (Ok rose) new old sum_new sum_old e h = omega (arith, e, h)
weighed (Err x) new old sum_new sum_old e h = tt

-- which of the cells have a next value
pub risen-at : {A : Type 0} (nexts : List (Option A)) (i : ℕ) (o : Option A) → i < length nexts
    → has_risen (set nexts i o) i ≡ is_some o
risen-at nexts i o h k = is_some (get_or-set_same nexts i o None h k)

pub risen-other : {A : Type 0} (nexts : List (Option A)) (i n : ℕ) (o : Option A) → n ≢ i
    → has_risen (set nexts i o) n ≡ has_risen nexts n
risen-other nexts i n o h k = is_some (get_or-set_other nexts i n o None h k)

-- also past the last one
pub risen-gone : {A : Type 0} (nexts : List (Option A)) (i : ℕ) → has_risen (set nexts i None) i ≡ false
risen-gone [] i = refl
risen-gone (o ∷ os) zero = refl
risen-gone (o ∷ os) (suc i) = risen-gone os i

pub risen-more : {A : Type 0} (nexts : List (Option A)) (n : ℕ) → has_risen (nexts ++ None ∷ []) n ≡ has_risen nexts n
risen-more [] zero = refl
risen-more [] (suc n) = refl
risen-more (o ∷ os) zero = refl
risen-more (o ∷ os) (suc n) = risen-more os n

-- a cell is replaced by one that rose where it did
pub risen-same : {A : Type 0} (nexts : List (Option A)) (i : ℕ) (o : Option A) → is_some o ≡ has_risen nexts i
    → (n : ℕ) → has_risen (set nexts i o) n ≡ has_risen nexts n
risen-same [] i o e n = refl
risen-same (x ∷ xs) zero o e zero = e
risen-same (x ∷ xs) zero o e (suc n) = refl
risen-same (x ∷ xs) (suc i) o e zero = refl
risen-same (x ∷ xs) (suc i) o e (suc n) = risen-same xs i o e n

-- what the values were and will be, where `by` is joined into what a cell's will be
pub raised-view : {C A : Type 0} (cells : List C) (i : ℕ) (y x : C) (stood will : C → A) (joined : A → A → A) (by : A)
    (fresh : List A) → i < length cells → x ≡ get_or cells i x → stood y ≡ stood x → will y ≡ joined (will x) by
    → ◌≡◌ {A = List A × List A} (map stood (set cells i y), map will (set cells i y) ++ fresh)
    (map stood cells, raised_at joined (map will cells ++ fresh) i by)
raised-view cells i y x stood will joined by fresh h e same raised =
    let within : i < length (map will cells) = omega (arith, h, length-map cells will) in
    let was : get_or (map will cells ++ fresh) i by ≡ will x =
    get_or_append_left (map will cells) fresh by i within ∙ get_or-map cells will i x by h e in
    let is : map will (set cells i y) ++ fresh ≡ raised_at joined (map will cells ++ fresh) i by =
    (λ k. map-set will cells i y k ++ fresh)
    ∙ (λ k. set (map will cells) i (raised k) ++ fresh)
    ∙ sym (set-append_left (map will cells) fresh i (joined (will x) by) within)
    ∙ (λ k. set (map will cells ++ fresh) i (joined (sym was k) by)) in
    (λ k. (map-set_same stood cells i y x (same ∙ (λ j. stood (e j))) k, is k))

-- and where it is joined into one that came in this round
pub raised-fresh : {A : Type 0} (old fresh : List A) (n i : ℕ) (joined : A → A → A) (by : A) → length old ≡ n
    → old ++ raised_at joined fresh i by ≡ raised_at joined (old ++ fresh) (n + i) by
raised-fresh old fresh n i joined by e =
    let at : n + i - n ≡ i = omega arith in
    let was : get_or (old ++ fresh) (n + i) by ≡ get_or fresh i by =
    get_or-append_right old fresh n (n + i) by e (omega arith) ∙ (λ k. get_or fresh (at k) by) in
    sym ((λ k. set (old ++ fresh) (n + i) (joined (was k) by))
    ∙ set-append_right old fresh n (n + i) (joined (get_or fresh i by) by) e (omega arith)
    ∙ (λ k. old ++ set fresh (at k) (joined (get_or fresh i by) by)))

pub past-same : {A : Type 0} (values : List A) (i : ℕ) (joined : A → A → A) (by : A) → length values ≤ i
    → values ≡ raised_at joined values i by
past-same values i joined by h = sym (set_past values i (joined (get_or values i by) by) h)

-- a cell that didn't rise is what it was
pub unrisen : {C A E : Type 0} (r : Result Bool E) (o : Option A) (cells : List C) (i : ℕ) (y d : C) (stood : C → A)
    → IfOk r (λ rose. rose ≡ is_some o) → stood y ≡ next_value (stood (get_or cells i d)) o
    → IfOk r (λ rose. rose ≡ false → map stood (set cells i y) ≡ map stood cells)
unrisen (Err z) o cells i y d stood rose is = tt
unrisen (Ok b) None cells i y d stood rose is = λ k. map-set_same stood cells i y d is
unrisen (Ok b) (Some z) cells i y d stood rose is = λ k. absurd (false≢true (sym k ∙ rose))

-- the cell of this number, however it was read
pub one_cell : {C : Type 0} (cells : List C) (i : ℕ) (x y : C) → i < length cells → x ≡ get_or cells i x
    → y ≡ get_or cells i y → x ≡ y
one_cell cells i x y h e f = e ∙ get_or_default cells i x y h ∙ sym f

-- the number that was listed last has none any more
pub popped : {A : Type 0} (xs : List ℕ) (x : ℕ) (old new : List (Option A)) → AreListed (xs ++ x ∷ []) (has_risen old)
    → new ≡ set old x None → AreListed xs (has_risen new)
popped xs x old new h is =
    listed-pop xs x (has_risen old) (has_risen new) h ((λ k. has_risen (is k) x) ∙ risen-gone old x)
    (λ n other. (λ k. has_risen (is k) n) ∙ risen-other old x n None other)

abbrev some_or : {A : Type 0} → A → Option A → A
some_or d None = d
some_or d (Some x) = x

-- a value that has a next one will be another, since its rank falls
differs : {A : Type 0} (rank : A → ℕ) (v : A) (o : Option A) → IfSome o (λ z. rank z < rank v)
    → (is_some o ≡ true) ↔ (Some v ≢ Some (next_value v o))
differs rank v None h = ((λ e. absurd (false≢true e)), (λ other. absurd (other refl)))
differs rank v (Some z) h = (
  (λ e same. let is : rank v ≡ rank z = λ k. rank (some_or v (same k)) in omega (arith, is, h)),
  (λ other. refl),
)

-- those that rose are those that will be others
pub risen-changed : {C A : Type 0} (rank : A → ℕ) (stood : C → A) (next : C → Option A) (fresh : List A)
    → ((c : C) → IfSome (next c) (λ z. rank z < rank (stood c))) → (cells : List C) (n : ℕ)
    → (has_risen (map next cells) n ≡ true) ↔ ((n < length (map stood cells))
    × HasChanged (map stood cells, map (λ c. next_value (stood c) (next c)) cells ++ fresh) n)
risen-changed rank stood next fresh falls [] n =
    ((λ e. absurd (false≢true e)), (λ h. absurd (omega (arith, h.0))))
risen-changed rank stood next fresh falls (x ∷ xs) zero =
    let at = differs rank (stood x) (next x) (falls x) in
    ((λ e. (omega arith, at.0 e)), (λ h. at.1 h.1))
risen-changed rank stood next fresh falls (x ∷ xs) (suc n) =
    let rest = risen-changed rank stood next fresh falls xs n in
    ((λ e. let h = rest.0 e in (omega (arith, h.0), h.1)), (λ h. rest.1 (omega (arith, h.0), h.1)))

unmoved : {A : Type 0} (v : A) (o : Option A) → is_some o ≡ false → v ≡ next_value v o
unmoved v None e = refl
unmoved v (Some z) e = absurd (false≢true (sym e))

-- where none rose, the values will be what they are
pub all-settled : {C A : Type 0} (stood : C → A) (next : C → Option A) (cells : List C)
    → ((n : ℕ) → has_risen (map next cells) n ≡ false)
    → map stood cells ≡ map (λ c. next_value (stood c) (next c)) cells
all-settled stood next [] h = refl
all-settled stood next (x ∷ xs) h =
    let first : stood x ≡ next_value (stood x) (next x) = unmoved (stood x) (next x) (h 0) in
    let rest = all-settled stood next xs (λ n. h (suc n)) in
    λ k. first k ∷ rest k

-- the rose of one cell after another
pub rose-same : {A : Type 0} (a b : Bool) (x y z : A) → (a ≡ false → y ≡ z) → (b ≡ false → x ≡ y)
    → (a || b) ≡ false → x ≡ z
rose-same true b x y z f g e = absurd (false≢true (sym e))
rose-same false b x y z f g e = g e ∙ f refl

pub rose-rank : (a b : Bool) (x y z : ℕ) → x + cond b 1 0 ≤ y → y + cond a 1 0 ≤ z → x + cond (a || b) 1 0 ≤ z
rose-rank true true x y z f g = omega (arith, f, g)
rose-rank true false x y z f g = omega (arith, f, g)
rose-rank false b x y z f g = omega (arith, f, g)

-- one more cell without a next value
pub read-more : {C A : Type 0} (cells : List C) (y : C) (read : C → A) (first yielded : List A) (v : A)
    → map read cells ≡ first ++ yielded → read y ≡ v → map read (cells ++ y ∷ []) ≡ first ++ (yielded ++ v ∷ [])
read-more cells y read first yielded v h e =
    map-append read cells (y ∷ []) ∙ (λ k. h k ++ e k ∷ []) ∙ append_assoc first yielded (v ∷ [])

pub risen-last : {C A : Type 0} (cells : List C) (y : C) (next : C → Option A) (n : ℕ) → next y ≡ None
    → has_risen (map next (cells ++ y ∷ [])) n ≡ has_risen (map next cells) n
risen-last cells y next n e =
    (λ k. has_risen (map-append next cells (y ∷ []) k) n) ∙ (λ k. has_risen (map next cells ++ e k ∷ []) n)
    ∙ risen-more (map next cells) n
