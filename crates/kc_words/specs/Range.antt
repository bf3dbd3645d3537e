-- What contracts see of a span, this project's own.
use Rattle.std.specs.Prelude.{ℕ}

-- the addresses from the first end up to and without the second; a Span's ends are in order
pub record Range : Type 0 where
  pub from : ℕ
  pub to : ℕ
