-- Flat orders, this project's own: one value lies above all others, and these lie beside each other.
use Rattle.std.specs.Prelude.{ℕ, Bool, ◌||◌, cond}

-- every value of the type is valid
abbrev pub AllValid : {A : Type 0} → A → Type 0
AllValid x = Unit {0}

module _ {A : Type 0} (same : A → A → Bool) (any : A) where
  -- the greater is any, or the two are the same
  abbrev pub flat_below : A → A → Bool
  flat_below lesser greater = same greater any || same lesser greater

  -- two values that are not the same give any
  abbrev pub flat_joined : A → A → A
  flat_joined x y = cond (same x y) x any

  abbrev pub flat_rank : A → ℕ
  flat_rank x = cond (same x any) 0 1
