-- What contracts see of a symbolic value, this project's own.
use Rattle.std.specs.Prelude.{ℕ}
use Rattle.kc_bits.specs.KnownBits.{KnownBits}
use Rattle.kc_value.specs.declared.symbol.Sym.{Sym}

-- a symbol, known bits, and the places where the number may lie: bit s of stacks is stack s, and bit 16
-- is outside all stacks
pub record AbsValue : Type 0 where
  pub sym : Sym
  pub bits : KnownBits
  pub stacks : ℕ
