-- Keys of contexts, this project's own: their numbers in a certificate, by which they are ordered, and their rules.
use Rattle.std.specs.Prelude.{◌≡◌, ℕ, ◌<◌, true, false, cond, List, [], ◌∷◌, None, is_some, unwrap_or, IfSome}
use Rattle.kc_space.specs.Spaces.{gs_number, map_number}
use Rattle.kc_state.specs.declared.key.Key.{Key}

-- kind, vector, origin, GS pair, map, stack, whether there is a base, and the base
abbrev pub key_numbers : Key → List ℕ
key_numbers k =
    cond k.syscall 0 1 ∷ k.vector ∷ cond k.kernel 1 0 ∷ gs_number k.gs ∷ map_number k.map ∷ unwrap_or k.stack 255
    ∷ cond (is_some k.base) 1 0
    ∷ unwrap_or k.base 0 ∷ []

-- what each key of a table keeps, where there are so many stacks
pub record IsKey (stacks : ℕ) (k : Key) : Type 0 where
  pub syscall : k.syscall ≡ true → (k.vector ≡ 0) × (k.kernel ≡ false) × (k.base ≡ None)
  pub user : k.kernel ≡ false → k.stack ≡ None
  pub stack : IfSome k.stack (λ s. s < stacks)
