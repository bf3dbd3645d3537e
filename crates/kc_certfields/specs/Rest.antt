-- What is left to read of a certificate, this project's own.
use Rattle.std.specs.Prelude.{ℕ, List}

-- the offset of the next byte, and the bytes from there on
pub record Rest : Type 0 where
  pub at : ℕ
  pub bytes : List ℕ
