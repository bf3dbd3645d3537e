-- The items of a list with given numbers, each of which is below the list's length: how many they are, each by its
-- index, and what stays where the list or the numbers grow. By induction on the numbers.
use Rattle.std.proofs.Common.{◌≡◌, ℕ, zero, suc, ◌<◌, List, [], ◌∷◌, ◌++◌, length, take, drop, get_or, Option, Some, refl, sym, ap, ◌∙◌, arith}
use Rattle.std.specs.Prelude.{slice_get, option_to_list, All}
use Rattle.std.specs.List.{insert}
use Rattle.std.proofs.lemmas.Grind.{flat_map-append}
use Rattle.std.proofs.lemmas.List.Elements.{All-head, All-tail, All-take, All-drop}
use Rattle.kc_certform.specs.Written.{items_at}

-- each number is one of an item
abbrev pub AreWithin : ℕ → List ℕ → Type 0
AreWithin n numbers = All (λ k. k < n) numbers

got : {A : Type 0} (items : List A) (k : ℕ) → k < length items
    → (x : A) × (slice_get items k ≡ Some x) × ((d : A) → get_or items k d ≡ x)
got [] k below = absurd (omega (arith, below))
got (y ∷ ys) zero below = (y, refl, λ d. refl)
got (y ∷ ys) (suc k) below = got ys k (omega (arith, below))

opened : {A : Type 0} (items : List A) (k : ℕ) (ks : List ℕ) (x : A) → slice_get items k ≡ Some x
    → items_at items (k ∷ ks) ≡ x ∷ items_at items ks
opened {A} items k ks x e = ap (λ (o : Option A). option_to_list o ++ items_at items ks) e

pub picked-long : {A : Type 0} (items : List A) (numbers : List ℕ) → AreWithin (length items) numbers
    → length (items_at items numbers) ≡ length numbers
picked-long items [] fits = refl
picked-long items (k ∷ ks) fits =
    let x = got items k (All-head (λ (n : ℕ). n < length items) k ks fits) in
    ap length (opened items k ks x.0 x.1)
    ∙ ap suc (picked-long items ks (All-tail (λ (n : ℕ). n < length items) k ks fits))

pub picked-at : {A : Type 0} (items : List A) (numbers : List ℕ) (i : ℕ) (d : A) → AreWithin (length items) numbers
    → i < length numbers → get_or (items_at items numbers) i d ≡ get_or items (get_or numbers i 0) d
picked-at items [] i d fits below = absurd (omega (arith, below))
picked-at {A} items (k ∷ ks) zero d fits below =
    let x = got items k (All-head (λ (n : ℕ). n < length items) k ks fits) in
    ap (λ (l : List A). get_or l 0 d) (opened items k ks x.0 x.1) ∙ sym (x.2 d)
picked-at {A} items (k ∷ ks) (suc i) d fits below =
    let x = got items k (All-head (λ (n : ℕ). n < length items) k ks fits) in
    ap (λ (l : List A). get_or l (suc i) d) (opened items k ks x.0 x.1)
    ∙ picked-at items ks i d (All-tail (λ (n : ℕ). n < length items) k ks fits) (omega (arith, below))

pub picked-got : {A : Type 0} (items : List A) (numbers : List ℕ) (i k : ℕ) (x : A) → AreWithin (length items) numbers
    → slice_get numbers i ≡ Some k → slice_get items k ≡ Some x → slice_get (items_at items numbers) i ≡ Some x
picked-got items [] i k x fits number item = absurd cc
picked-got {A} items (l ∷ ls) zero k x fits number item =
    let same : l ≡ k = cc (number) in
    ap (λ (o : List A). slice_get o 0)
    (opened items l ls x (ap (λ (n : ℕ). slice_get items n) same ∙ item))
picked-got {A} items (l ∷ ls) (suc i) k x fits number item =
    let y = got items l (All-head (λ (n : ℕ). n < length items) l ls fits) in
    ap (λ (o : List A). slice_get o (suc i)) (opened items l ls y.0 y.1)
    ∙ picked-got items ls i k x (All-tail (λ (n : ℕ). n < length items) l ls fits) number item

-- by more numbers
pub picked-append : {A : Type 0} (items : List A) (ks ls : List ℕ)
    → items_at items (ks ++ ls) ≡ items_at items ks ++ items_at items ls
picked-append items ks ls = flat_map-append (λ k. option_to_list (slice_get items k)) ks ls

got-kept : {A : Type 0} (items more : List A) (k : ℕ) → k < length items
    → slice_get (items ++ more) k ≡ slice_get items k
got-kept [] more k below = absurd (omega (arith, below))
got-kept (y ∷ ys) more zero below = refl
got-kept (y ∷ ys) more (suc k) below = got-kept ys more k (omega (arith, below))

-- more items come after these
pub picked-kept : {A : Type 0} (items more : List A) (numbers : List ℕ) → AreWithin (length items) numbers
    → items_at (items ++ more) numbers ≡ items_at items numbers
picked-kept items more [] fits = refl
picked-kept {A} items more (k ∷ ks) fits =
    ap (λ (o : Option A). option_to_list o ++ items_at (items ++ more) ks)
    (got-kept items more k (All-head (λ (n : ℕ). n < length items) k ks fits))
    ∙ ap (λ (l : List A). option_to_list (slice_get items k) ++ l)
    (picked-kept items more ks (All-tail (λ (n : ℕ). n < length items) k ks fits))

got-last : {A : Type 0} (items : List A) (x : A) → slice_get (items ++ x ∷ []) (length items) ≡ Some x
got-last [] x = refl
got-last (y ∷ ys) x = got-last ys x

-- the last item of all
pub picked-last : {A : Type 0} (items : List A) (x : A) → items_at (items ++ x ∷ []) (length items ∷ []) ≡ x ∷ []
picked-last items x = opened (items ++ x ∷ []) (length items) [] x (got-last items x)

-- of some of the numbers
picked-take : {A : Type 0} (items : List A) (numbers : List ℕ) (g : ℕ) → AreWithin (length items) numbers
    → items_at items (take g numbers) ≡ take g (items_at items numbers)
picked-take items numbers zero fits = refl
picked-take items [] (suc g) fits = refl
picked-take {A} items (k ∷ ks) (suc g) fits =
    let below = All-head (λ (n : ℕ). n < length items) k ks fits in
    let rest = All-tail (λ (n : ℕ). n < length items) k ks fits in
    let x = got items k below in
    opened items k (take g ks) x.0 x.1 ∙ ap (λ (l : List A). x.0 ∷ l) (picked-take items ks g rest)
    ∙ ap (λ (l : List A). take (suc g) l) (sym (opened items k ks x.0 x.1))

picked-drop : {A : Type 0} (items : List A) (numbers : List ℕ) (g : ℕ) → AreWithin (length items) numbers
    → items_at items (drop g numbers) ≡ drop g (items_at items numbers)
picked-drop items numbers zero fits = refl
picked-drop items [] (suc g) fits = refl
picked-drop {A} items (k ∷ ks) (suc g) fits =
    let below = All-head (λ (n : ℕ). n < length items) k ks fits in
    let rest = All-tail (λ (n : ℕ). n < length items) k ks fits in
    let x = got items k below in
    picked-drop items ks g rest ∙ ap (λ (l : List A). drop (suc g) l) (sym (opened items k ks x.0 x.1))

-- a new last item, whose number is put between the others
pub picked-insert : {A : Type 0} (items : List A) (x : A) (numbers : List ℕ) (g : ℕ) → AreWithin (length items) numbers
    → items_at (items ++ x ∷ []) (insert numbers g (length items)) ≡ insert (items_at items numbers) g x
picked-insert {A} items x numbers g fits =
    let all = items ++ x ∷ [] in
    let front = take g numbers in
    let back = drop g numbers in
    picked-append all front (length items ∷ back)
    ∙ ap (λ (l : List A). items_at all front ++ l) (opened all (length items) back x (got-last items x))
    ∙ ap (λ (l : List A). l ++ x ∷ items_at all back)
    (picked-kept items (x ∷ []) front (All-take (λ (n : ℕ). n < length items) g numbers fits)
    ∙ picked-take items numbers g fits)
    ∙ ap (λ (l : List A). take g (items_at items numbers) ++ x ∷ l)
    (picked-kept items (x ∷ []) back (All-drop (λ (n : ℕ). n < length items) g numbers fits)
    ∙ picked-drop items numbers g fits)
