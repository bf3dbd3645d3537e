-- What an answer of rules in a row says of each rule: an Ok passed them all, an Err came from one of them.
-- By cases on the first answer; equations between constructors are left to cc.
use Rattle.std.proofs.Common.{◌≡◌, Bool, true, false, List, [], ◌∷◌, Option, Some, Result, Ok, Err, ◌⊎◌, inl, inr, refl}
use Rattle.kc_rules.specs.Rules.{refuse, ◌>>=◌, over}

pub bind_ok : {A B E : Type 0} (r : Result A E) (f : A → Result B E) (y : B) → (r >>= f) ≡ Ok y → (x : A) × (r ≡ Ok x)
    × (f x ≡ Ok y)
bind_ok (Ok x) f y e = (x, refl, e)
bind_ok (Err d) f y e = absurd cc

pub bind_err : {A B E : Type 0} (r : Result A E) (f : A → Result B E) (d : E) → (r >>= f) ≡ Err d
    → (r ≡ Err d) ⊎ ((x : A) × (r ≡ Ok x) × (f x ≡ Err d))
bind_err (Ok x) f d e = inr (x, refl, e)
bind_err (Err c) f d e = inl cc

-- a rule that was passed isn't broken
pub refuse_ok : {E : Type 0} (b : Bool) (fault : E) (x : Unit {0}) → refuse b fault ≡ Ok x → b ≡ false
refuse_ok true fault x e = absurd cc
refuse_ok false fault x e = refl

-- a rule that refused is broken, with this fault
pub refuse_err : {E : Type 0} (b : Bool) (fault d : E) → refuse b fault ≡ Err d → (b ≡ true) × (fault ≡ d)
refuse_err true fault d e = (refl, cc)
refuse_err false fault d e = absurd cc

-- of two items, the second is added to what the first left
pub over_ok : {A P E : Type 0} (add : A → P → Result A E) (gathered : A) (item : P) (items : List P) (y : A)
    → over add gathered (item ∷ items) ≡ Ok y → (more : A) × (add gathered item ≡ Ok more)
    × (over add more items ≡ Ok y)
unfolding over
over_ok add gathered item items y e = bind_ok (add gathered item) (λ more. over add more items) y e

-- Ok of a value of this type, with any fault: for equations whose types cc can't guess
abbrev pub done : {A E : Type 0} → A → Result A E
done x = Ok x

pub ok_is : {A E : Type 0} (x y : A) → done {E = E} x ≡ done y → x ≡ y
ok_is x y e = cc

pub some_is : {A : Type 0} (x y : A) → Some x ≡ Some y → x ≡ y
some_is x y e = cc
