-- Lists of abstract values, place by place, this project's own.
use Rattle.std.specs.Prelude.{Bool, true, false, ◌&&◌, List, [], ◌∷◌}

module _ {A : Type 0} where
  -- lists of one length, in order at each place
  abbrev pub rows_below : (A → A → Bool) → List A → List A → Bool
  rows_below f [] [] = true
  rows_below f (x ∷ xs) (y ∷ ys) = f x y && rows_below f xs ys
  rows_below f _ _ = false

  -- the joins of two lists of one length
  abbrev pub rows_joined : (A → A → A) → List A → List A → List A
  rows_joined f (x ∷ xs) (y ∷ ys) = f x y ∷ rows_joined f xs ys
  rows_joined f _ _ = []
