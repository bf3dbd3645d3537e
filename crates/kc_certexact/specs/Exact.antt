-- Readings of a certificate's fields that take exactly what spells them, this project's own.
use Rattle.std.specs.Prelude.{◌≡◌, ℕ, ◌<◌, List, ◌++◌, All, Ok}
use Rattle.kc_certfields.specs.Rest.{Rest}
use Rattle.kc_certfields.specs.Reads.{Reading}

-- each number is a byte
abbrev pub AreBytes : List ℕ → Type 0
AreBytes bytes = All (λ b. b < 256) bytes

-- the value fits, and the bytes that were taken spell it
pub record Taken {A : Type 0} (spell : A → List ℕ) (Fits : A → Type 0) (before after : Rest) (x : A) : Type 0 where
  pub fits : Fits x
  pub spelled : before.bytes ≡ spell x ++ after.bytes

-- the value is read, and these bytes are left
pub record Given {A : Type 0} (read : Reading A) (before : Rest) (x : A) (more : List ℕ) : Type 0 where
  pub after : Rest
  pub is : read before ≡ Ok (x, after)
  pub left : after.bytes ≡ more

-- what is read fits and was spelled so; and what fits is read where it is spelled, whatever follows
pub record Exact {A : Type 0} (read : Reading A) (spell : A → List ℕ) (Fits : A → Type 0) : Type 0 where
  pub takes : (i j : Rest) (x : A) → AreBytes i.bytes → read i ≡ Ok (x, j) → Taken spell Fits i j x
  pub gives : (i : Rest) (x : A) (more : List ℕ) → Fits x → i.bytes ≡ spell x ++ more → Given read i x more
