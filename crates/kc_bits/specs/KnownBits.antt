-- What contracts see of known bits, this project's own.
use Rattle.std.specs.Prelude.{ℕ}

-- the bits that are known to be 0 and those that are known to be 1; in a Bits no bit is in both
pub record KnownBits : Type 0 where
  pub zeros : ℕ
  pub ones : ℕ
