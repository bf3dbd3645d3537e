-- What a domain of abstract values keeps, this project's own: a partial order with least upper bounds and
-- tops among valid values of one shape, and a rank by which a search that joins is shown to end.
use Rattle.std.specs.Prelude.{◌≡◌, ℕ, ◌≤◌, Bool, true, List, All}

pub record Laws {A : Type 0} (valid : A → Type 0) (alike : A → A → Type 0) (below : A → A → Bool) (joined : A → A → A)
    (top_of : A → A) (rank : A → ℕ) : Type 0 where
  -- being of one shape is an equivalence, and what is ordered is of one shape
  pub alike_refl : (x : A) → valid x → alike x x
  pub alike_sym : (x y : A) → valid x → valid y → alike x y → alike y x
  pub alike_trans : (x y z : A) → valid x → valid y → valid z → alike x y → alike y z → alike x z
  pub ordered_alike : (x y : A) → valid x → valid y → below x y ≡ true → alike x y
  -- a partial order
  pub below_refl : (x : A) → valid x → below x x ≡ true
  pub below_trans : (x y z : A) → valid x → valid y → valid z → below x y ≡ true → below y z ≡ true → below x z ≡ true
  pub below_antisym : (x y : A) → valid x → valid y → below x y ≡ true → below y x ≡ true → x ≡ y
  -- the join is the least upper bound
  pub join_valid : (x y : A) → valid x → valid y → alike x y → valid (joined x y)
  pub join_left : (x y : A) → valid x → valid y → alike x y → below x (joined x y) ≡ true
  pub join_right : (x y : A) → valid x → valid y → alike x y → below y (joined x y) ≡ true
  pub join_least : (x y z : A) → valid x → valid y → valid z → alike x y → below x z ≡ true → below y z ≡ true
      → below (joined x y) z ≡ true
  -- the top of a shape is above all of it
  pub top_valid : (x : A) → valid x → valid (top_of x)
  pub top_above : (x y : A) → valid x → valid y → alike x y → below y (top_of x) ≡ true
  -- above a value the rank is no greater, and is the same only where the values are equal
  pub rank_falls : (x y : A) → valid x → valid y → below x y ≡ true → rank y ≤ rank x
  pub rank_tied : (x y : A) → valid x → valid y → below x y ≡ true → rank x ≡ rank y → x ≡ y

-- all values are of one shape
abbrev pub AllAlike : {A : Type 0} → A → A → Type 0
AllAlike x y = Unit {0}

-- z is the least of all valid values that are above each of xs
pub record IsLeastUpperBound {A : Type 0} (valid : A → Type 0) (below : A → A → Bool) (xs : List A) (z : A) : Type 0
  where
    pub valid_bound : valid z
    pub above : All (λ x. below x z ≡ true) xs
    pub least : (w : A) → valid w → All (λ x. below x w ≡ true) xs → below z w ≡ true
