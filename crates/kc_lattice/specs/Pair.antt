-- Pairs of abstract values, part by part, this project's own.
use Rattle.std.specs.Prelude.{ℕ, ◌+◌, Bool, ◌&&◌}
use Rattle.kc_lattice.specs.declared.both.Both.{Both}

module _ {A B : Type 0} where
  abbrev pub both_valid : (A → Type 0) → (B → Type 0) → Both A B → Type 0
  both_valid p q x = p x.first × q x.second

  abbrev pub both_alike : (A → A → Type 0) → (B → B → Type 0) → Both A B → Both A B → Type 0
  both_alike p q x y = p x.first y.first × q x.second y.second

  abbrev pub both_below : (A → A → Bool) → (B → B → Bool) → Both A B → Both A B → Bool
  both_below p q x y = p x.first y.first && q x.second y.second

  abbrev pub both_joined : (A → A → A) → (B → B → B) → Both A B → Both A B → Both A B
  both_joined f g x y = record { first = f x.first y.first; second = g x.second y.second }

  abbrev pub both_top : (A → A) → (B → B) → Both A B → Both A B
  both_top f g x = record { first = f x.first; second = g x.second }

  abbrev pub both_rank : (A → ℕ) → (B → ℕ) → Both A B → ℕ
  both_rank f g x = f x.first + g x.second
