-- Items of lists: which are among a list, what holds of all of those, and two lists of one length beside each other.
-- By induction on the lists.
use Rattle.std.proofs.Common.{◌≡◌, ◌≢◌, ℕ, zero, suc, ◌<◌, ◌⊎◌, inl, inr, ◌&&◌, Bool, true, false, cond, T}
use Rattle.std.proofs.Common.{List, [], ◌∷◌, ◌++◌, Some, None, is_some, length, get_or, slice_get, unwrap_or}
use Rattle.std.proofs.Common.{refl, sym, ap, subst, arith}
use Rattle.std.specs.List.{zip, AllByRecursion}

pub same-Some : {A : Type 0} (x y : A) → Some x ≡ Some y → x ≡ y
same-Some x y e = ap (λ o. unwrap_or o x) e

pub not-None : {A : Type 0} (x : A) → None ≢ Some x
not-None x e = subst T (ap is_some (sym e)) tt

pub both : (a b : Bool) → T a → T b → T (a && b)
both true b p q = q
both false b p q = p

pub no-items : {A : Type 0} (xs : List A) → length xs ≡ 0 → xs ≡ []
no-items [] e = refl
no-items (x ∷ xs) e = absurd (omega (arith, e))

-- the first of two choices by one test decides
pub shadowed : {A : Type 0} (b : Bool) (x y z : A) → cond b x z ≡ cond b x (cond b y z)
shadowed true x y z = refl
shadowed false x y z = refl

-- two choices whose tests don't both hold may be made in any order
pub swapped : {A : Type 0} (a b : Bool) (x y z : A) → (a ≡ true → b ≡ false)
    → cond a x (cond b y z) ≡ cond b y (cond a x z)
swapped true b x y z apart = sym (ap (λ c. cond c y x) (apart refl))
swapped false b x y z apart = refl

-- what each item keeps, it keeps where that is weaker
pub weaker : {A : Type 0} (P Q : A → Type 0) → ((x : A) → P x → Q x) → (xs : List A) → AllByRecursion P xs
    → AllByRecursion Q xs
weaker P Q f [] h = tt
weaker P Q f (x ∷ xs) h = (f x h.0, weaker P Q f xs h.1)

-- x is one of the items
abbrev pub Among : {A : Type 0} → List A → A → Type 0
Among [] x = ⊥
Among (y ∷ ys) x = (x ≡ y) ⊎ Among ys x

pub at-all : {A : Type 0} (P : A → Type 0) (xs : List A) (x : A) → AllByRecursion P xs → Among xs x → P x
at-all P [] x h a = absurd a
at-all P (y ∷ ys) x h (inl e) = subst P (sym e) h.0
at-all P (y ∷ ys) x h (inr a) = at-all P ys x h.1 a

pub all-among : {A : Type 0} (xs : List A) → AllByRecursion (Among xs) xs
all-among [] = tt
all-among (x ∷ xs) = (inl refl, weaker (Among xs) (Among (x ∷ xs)) (λ y a. inr a) xs (all-among xs))

pub among-at : {A : Type 0} (xs : List A) (n : ℕ) (x : A) → slice_get xs n ≡ Some x → Among xs x
among-at [] n x e = absurd (not-None x e)
among-at (y ∷ ys) zero x e = inl (sym (same-Some y x e))
among-at (y ∷ ys) (suc n) x e = inr (among-at ys n x e)

pub among-last : {A : Type 0} (xs : List A) (x : A) → Among (xs ++ x ∷ []) x
among-last [] x = inl refl
among-last (y ∷ ys) x = inr (among-last ys x)

pub front-among : {A : Type 0} (xs ys : List A) → AllByRecursion (Among (xs ++ ys)) xs
front-among [] ys = tt
front-among (x ∷ xs) ys =
    (inl refl, weaker (Among (xs ++ ys)) (Among (x ∷ xs ++ ys)) (λ y a. inr a) xs (front-among xs ys))

pub at-some : {A : Type 0} (xs : List A) (n : ℕ) (x : A) → slice_get xs n ≡ Some x → n < length xs
at-some [] n x e = absurd (not-None x e)
at-some (y ∷ ys) zero x e = omega arith
at-some (y ∷ ys) (suc n) x e = omega (arith, at-some ys n x e)

pub got : {A : Type 0} (xs : List A) (n : ℕ) (d : A) → n < length xs → slice_get xs n ≡ Some (get_or xs n d)
got [] n d h = absurd (omega (arith, h))
got (x ∷ xs) zero d h = refl
got (x ∷ xs) (suc n) d h = got xs n d (omega (arith, h))

-- two lists of one length beside each other, each with one item more
pub zip-push : {A B : Type 0} (xs : List A) (ys : List B) (x : A) (y : B) → length ys ≡ length xs
    → zip (xs ++ x ∷ []) (ys ++ y ∷ []) ≡ zip xs ys ++ (x, y) ∷ []
zip-push [] [] x y l = refl
zip-push [] (b ∷ ys) x y l = absurd (omega (arith, l))
zip-push (a ∷ xs) [] x y l = absurd (omega (arith, l))
zip-push (a ∷ xs) (b ∷ ys) x y l = ap (λ es. (a, b) ∷ es) (zip-push xs ys x y (omega (arith, l)))

pub pushed : {A : Type 0} (P : A → Type 0) (xs : List A) (x : A) → AllByRecursion P xs → P x
    → AllByRecursion P (xs ++ x ∷ [])
pushed P [] x h p = (p, tt)
pushed P (y ∷ ys) x h p = (h.0, pushed P ys x h.1 p)
