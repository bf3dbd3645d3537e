-- Rows as a finite map: a list of keys, no two of which tie, beside a list of values, one for each key. This
-- project's own.
use Rattle.std.specs.Prelude.{◌≡◌, ℕ, false, Some, None, List, [], ◌∷◌, ◌++◌, length, slice_get}
use Rattle.std.specs.FinMap as finite
use Rattle.std.specs.List.{zip, IsDistinct, AllByRecursion}
use Rattle.std.specs.Ordering.{eq_by_cmp}
use Rattle.std.specs.declared.cmp.Ordering.{Ordering}
use Rattle.std.specs.declared.cmp.Ordering.TheVariants.{Equal}
use Rattle.kc_cert.specs.IterationLimit.{also}
use Rattle.kc_rising.specs.Values.{raised_at}

-- each key with its value
abbrev pub map_of : {K X : Type 0} {R : K → K → Ordering} → List K → List X → finite.FinMap R X
map_of keys values = finite.from_entries (zip keys values)

-- no two of these keys tie
abbrev pub NoTwoTie : {K : Type 0} → (K → K → Ordering) → List K → Type 0
NoTwoTie R keys = IsDistinct (eq_by_cmp R) keys

-- the key ties with none of these
abbrev pub TiesWithNone : {K : Type 0} → (K → K → Ordering) → K → List K → Type 0
TiesWithNone R k keys = AllByRecursion (λ q. eq_by_cmp R k q ≡ false) keys

-- no two keys tie, and there is a value for each
pub record AreRows {K X : Type 0} (R : K → K → Ordering) (keys : List K) (values : List X) : Type 0 where
  pub apart : NoTwoTie R keys
  pub sized : length values ≡ length keys

-- x is joined into the value at the key; where there is none, it comes there
abbrev pub joined_at : {K X : Type 0} {R : K → K → Ordering} → (X → X → X) → finite.FinMap R X → K → X
    → finite.FinMap R X
joined_at joined m k x = finite.insert m k (also joined (finite.get m k) x)

-- ---- what is said of rows

-- a value that is joined into that of a row is joined into the map at the row's key, or at one that ties with it
abbrev pub JoinsAtKeys : {K X : Type 0} → (K → K → Ordering) → List K → List X → Type 0
JoinsAtKeys {K} {X} R keys values =
    (joined : X → X → X) (n : ℕ) (k q : K) (x : X) → slice_get keys n ≡ Some q → R k q ≡ Equal
    → joined_at {R = R} joined (map_of keys values) k x ≡ map_of keys (raised_at joined values n x)

-- a row that comes with a new key is inserted in the map
abbrev pub InsertsRows : {K X : Type 0} → (K → K → Ordering) → List K → List X → Type 0
InsertsRows {K} {X} R keys values =
    (k : K) (x : X) → TiesWithNone R k keys
    → finite.insert {R = R} (map_of keys values) k x ≡ map_of (keys ++ k ∷ []) (values ++ x ∷ [])

-- a row that comes with a new key is joined into the map at that key
abbrev pub JoinsRows : {K X : Type 0} → (K → K → Ordering) → List K → List X → Type 0
JoinsRows {K} {X} R keys values =
    (joined : X → X → X) (k : K) (x : X) → TiesWithNone R k keys
    → joined_at {R = R} joined (map_of keys values) k x ≡ map_of (keys ++ k ∷ []) (values ++ x ∷ [])

-- the map has as many keys as there are rows
abbrev pub CountsRows : {K X : Type 0} → (K → K → Ordering) → List K → List X → Type 0
CountsRows R keys values = finite.len {R = R} (map_of keys values) ≡ length keys

-- the value of a row is found at its key, or at one that ties with it
abbrev pub FindsRows : {K X : Type 0} → (K → K → Ordering) → List K → List X → Type 0
FindsRows {K} {X} R keys values =
    (n : ℕ) (k q : K) → slice_get keys n ≡ Some q → R k q ≡ Equal
    → finite.get {R = R} (map_of keys values) k ≡ slice_get values n

-- nothing is found at a key that ties with none
abbrev pub FindsNoOther : {K X : Type 0} → (K → K → Ordering) → List K → List X → Type 0
FindsNoOther {K} {X} R keys values =
    (k : K) → TiesWithNone R k keys → finite.get {R = R} (map_of keys values) k ≡ None
