-- Arrays. What a loop has gathered of the items so far and what the items left give is what all items give: one turn
-- moves an item over, by the list's next element. A fault of one item is a fault of all.
use Rattle.std.proofs.Common.{◌≡◌, ℕ, suc, ◌+◌, ◌<◌, ◌≤◌, Bool, ◌||◌, List, [], ◌∷◌, ◌++◌, length, get_or, drop, map, Option, Some, None, option_map, Result, Ok, Err, ◌⊎◌, inl, inr, refl, ap, sym, ◌∙◌, append_assoc}
use Rattle.std.specs.Option.{option_and_then}
use Rattle.std.specs.List.{list_any}
use Rattle.std.proofs.lemmas.List.{drop_more, drop_all, map-append, append-nil}
use Rattle.kc_rules.proofs.AnswerLemmas.{some_is}
use Rattle.toml.specs.Data.{Data, as_array}
use Rattle.toml.specs.View.{view, items_view}
use Rattle.toml.specs.declared.value.Value.{Value}
use Rattle.kc_config.specs.declared.fault.ConfigFault.{ConfigFault}
use Rattle.kc_config.specs.declared.fault.ConfigFault.TheVariants.{WrongKind}
use Rattle.kc_config.specs.Paths.{path}
use Rattle.kc_config.specs.Faults.{no_memory}
use Rattle.kc_config.specs.Keys.{Section, value, array, array_of, listed, every}

pub listed_view : (vs : List Value) → listed (items_view vs) ≡ map view vs
listed_view [] = refl
listed_view (v ∷ vs) = ap (λ ds. view v ∷ ds) (listed_view vs)

pub array_is : (at : Section) (key : List ℕ) (d : Data) (vs : List Value) → value at key ≡ Ok d → Some (items_view vs)
    ≡ as_array d
    → array at key ≡ Ok (map view vs)
unfolding array
array_is at key d vs found items = rw (found, ← items, listed_view vs)

-- what was gathered, and then what the rest gives
abbrev pub joined : {B : Type 0} → List B → Option (List B) → Option (List B)
joined ys rest = option_map (λ zs. ys ++ zs) rest

joined_next : {B : Type 0} (ys : List B) (y : B) (rest : Option (List B)) → joined ys (option_map (λ zs. y ∷ zs) rest)
    ≡ joined (ys ++ y ∷ []) rest
joined_next ys y None = refl
joined_next ys y (Some zs) = ap Some (sym (append_assoc ys (y ∷ []) zs))

pub every_map : {X Y B : Type 0} (f : Y → Option B) (g : X → Y) (xs : List X) → every f (map g xs)
    ≡ every (λ x. f (g x)) xs
every_map f g [] = refl
every_map f g (x ∷ xs) = ap (λ rest. option_and_then (λ y. option_map (λ ys. y ∷ ys) rest) (f (g x))) (every_map f g xs)

pub every_more : {X T B : Type 0} (f : X → Option B) (g : T → B) (xs : List X) (i : ℕ) (d : X) (old new : List T)
    (t : T)
    → i < length xs → Some (g t) ≡ f (get_or xs i d) → new ≡ old ++ t ∷ []
    → every f xs ≡ joined (map g old) (every f (drop i xs)) → every f xs ≡ joined (map g new)
    (every f (drop (i + 1) xs))
every_more f g xs i d old new t within here pushed so_far =
    so_far ∙ rw (
      drop_more xs i d within,
      ← here,
      pushed,
      map-append g old (t ∷ []),
    ) (joined_next (map g old) (g t) (every f (drop (i + 1) xs)))

pub every_none : {X B : Type 0} (f : X → Option B) (xs : List X) (i : ℕ) (d : X) (ys : List B)
    → i < length xs → None ≡ f (get_or xs i d) → every f xs ≡ joined ys (every f (drop i xs)) → every f xs ≡ None
every_none f xs i d ys within here so_far = so_far ∙ rw (drop_more xs i d within, ← here) refl

pub every_all : {X B : Type 0} (f : X → Option B) (xs : List X) (i : ℕ) (ys : List B)
    → length xs ≤ i → every f xs ≡ joined ys (every f (drop i xs)) → every f xs ≡ Some ys
every_all f xs i ys end so_far = so_far ∙ rw (drop_all i xs end, append-nil ys) refl

-- what was gathered of an array whose items are all of the kind
pub gathered : {B : Type 0} (kind : Data → Option B) (at : Section) (key : List ℕ) (vs : List Value) (i : ℕ)
    (ys : List B)
    → array at key ≡ Ok (map view vs) → length vs ≤ i
    → every (λ v. kind (view v)) vs ≡ joined ys (every (λ v. kind (view v)) (drop i vs)) → array_of kind at key ≡ Ok ys
unfolding array_of
gathered kind at key vs i ys found end so_far =
    let all = every_map kind view vs ∙ every_all (λ v. kind (view v)) vs i ys end so_far in
    rw (found, all) refl

-- an array with an item of another kind
pub refused : {B : Type 0} (kind : Data → Option B) (at : Section) (key : List ℕ) (vs : List Value) (i : ℕ) (v : Value)
    (ys : List B)
    → array at key ≡ Ok (map view vs) → i < length vs → v ≡ get_or vs i v → None ≡ kind (view v)
    → every (λ v. kind (view v)) vs ≡ joined ys (every (λ v. kind (view v)) (drop i vs))
    → array_of kind at key ≡ Err (WrongKind (path at.place key))
unfolding array_of
refused kind at key vs i v ys found within is here so_far =
    let none = every_map kind view vs ∙ every_none (λ v. kind (view v)) vs i v ys within
    (here ∙ ap (λ v. kind (view v)) is) so_far in
    rw (found, none) refl

-- the answer of a fault whose path may take memory
pub as_refused : {A : Type 0} (due : Result A ConfigFault) (e fault : ConfigFault) → (e ≡ no_memory) ⊎ (e ≡ fault)
    → due ≡ Err fault
    → (e ≡ no_memory) ⊎ (due ≡ Err e)
as_refused due e fault (inl memory) is = inl memory
as_refused due e fault (inr same) is = inr (is ∙ ap Err (sym same))

-- every item gives one
pushed_length : {B : Type 0} (first : Option B) (rest : Option (List B)) (ys : List B) (n : ℕ)
    → option_and_then (λ y. option_map (λ zs. y ∷ zs) rest) first ≡ Some ys
    → ((zs : List B) → rest ≡ Some zs → length zs ≡ n) → length ys ≡ suc n
pushed_length None rest ys n e more = absurd cc
pushed_length (Some y) None ys n e more = absurd cc
pushed_length (Some y) (Some zs) ys n e more = ap length (sym (some_is _ _ e)) ∙ ap suc (more zs refl)

pub every_length : {X B : Type 0} (f : X → Option B) (xs : List X) (ys : List B) → every f xs ≡ Some ys
    → length ys ≡ length xs
every_length f [] ys e = ap length (sym (some_is _ _ e))
every_length f (x ∷ xs) ys e = pushed_length (f x) (every f xs) ys (length xs) e (every_length f xs)

pub list_any-map : {X Y : Type 0} (p : Y → Bool) (g : X → Y) (xs : List X) → list_any p (map g xs)
    ≡ list_any (λ x. p (g x)) xs
list_any-map p g [] = refl
list_any-map p g (x ∷ xs) = ap (λ b. p (g x) || b) (list_any-map p g xs)
