-- What contracts see of a clobber, this project's own.
use Rattle.std.specs.Prelude.{ℕ}

-- sets as numbers: bit s of stacks is stack s, and bit w of words is word w
pub record ClobberSets : Type 0 where
  pub stacks : ℕ
  pub words : ℕ
