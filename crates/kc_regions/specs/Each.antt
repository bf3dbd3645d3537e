-- Rules on lists that ask each element together with those before it, and the first element that breaks one.
use Rattle.std.specs.Prelude.{ℕ, ◌<◌, List, length, take, slice_index_or}

-- each element keeps the rule together with those before it
abbrev pub Each : {X : Type 0} → (List X → X → Type 0) → List X → Type 0
Each {X} Keeps xs = (i : ℕ) (d : X) → i < length xs → Keeps (take i xs) (slice_index_or xs i d)

-- the element number i, counted from 0, is the first that breaks the rule together with those before it
pub record IsFirstBreaking {X : Type 0} (Keeps : List X → X → Type 0) (xs : List X) (i : ℕ) : Type 0 where
  pub inside : i < length xs
  pub breaks : (d : X) → Keeps (take i xs) (slice_index_or xs i d) → ⊥
  pub before : (j : ℕ) (d : X) → j < i → Keeps (take j xs) (slice_index_or xs j d)
