-- Lists of words: a test of what the items are seen as goes through `map`, by induction on the list; an iterator over a
-- vector that has no item left has the empty list left, by the fact that its type keeps.
use Rattle.std.proofs.Common.{◌≡◌, Bool, List, [], ◌∷◌, ◌++◌, length, refl, sym, ap, ◌∙◌, drop, append_assoc}
use Rattle.std.proofs.Common.{append-nil, arith}
use Rattle.std.specs.Prelude.{map, ◌||◌, Option, Some, None}
use Rattle.std.specs.List.{list_any}
use Rattle.std.specs.Vec.Iter.{into_iter_items, into_iter_len, into_iter_steps}
use Rattle.std.specs.declared.vec.IntoIter.{IntoIter}

-- a test of what the items are seen as
pub list_any-map : {A B : Type 0} (p : B → Bool) (f : A → B) (xs : List A) →
    list_any p (map f xs) ≡ list_any (λ x. p (f x)) xs
list_any-map p f [] = refl
list_any-map p f (x ∷ xs) = ap (λ b. p (f x) || b) (list_any-map p f xs)

empty : {A : Type 0} (xs : List A) → length xs ≡ 0 → xs ≡ []
empty [] none = refl
empty (x ∷ xs) none = absurd (omega arith)

-- no item is still to come
pub none_left : {A Z : Type 0} (it : IntoIter A Z) → into_iter_len it ≡ 0 → into_iter_items it ≡ []
none_left it none = empty (into_iter_items it) (sym it.rest.ok.0 ∙ none)

-- what is still to come after the first step is all but the first item
pub after_first : {A B Z : Type 0} (f : A → B) (s t : IntoIter A Z) (r : Option A) → into_iter_steps s r t →
    map f (into_iter_items t) ≡ drop 1 (map f (into_iter_items s))
after_first f s t None steps = rw (none_left s steps.0, none_left t steps.1) refl
after_first f s t (Some x) steps = rw steps.0 refl

-- the next item goes from what is still to come to what was given
pub next_given : {A B Z : Type 0} (f : A → B) (given given' all : List B) (s t : IntoIter A Z) (x : A) →
    into_iter_items s ≡ x ∷ into_iter_items t → given' ≡ given ++ f x ∷ [] →
    given ++ map f (into_iter_items s) ≡ all → given' ++ map f (into_iter_items t) ≡ all
next_given f given given' all s t x step is so_far =
    rw is (append_assoc given (f x ∷ []) (map f (into_iter_items t)) ∙ rw step at so_far)

-- where none is still to come, all were given
pub all_given : {A B Z : Type 0} (f : A → B) (given all : List B) (s : IntoIter A Z) → into_iter_len s ≡ 0 →
    given ++ map f (into_iter_items s) ≡ all → given ≡ all
all_given f given all s none so_far =
    let rest : map f (into_iter_items s) ≡ [] = rw (none_left s none) refl in
    sym (append-nil given) ∙ rw rest at so_far
