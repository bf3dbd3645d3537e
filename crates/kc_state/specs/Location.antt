-- Where an abstract value points, this project's own: a number, or an offset from the newest activation's base.
use Rattle.std.specs.Prelude.{ℕ, ◌+◌, Option, Some, None, ℤ, option_map}
use Rattle.std.specs.Int.{w64, cast_unsigned}
use Rattle.kc_bits.specs.Bits.{bits_single, word}
use Rattle.kc_value.specs.AbsValue.{AbsValue}
use Rattle.kc_value.specs.declared.symbol.Sym.{Sym}
use Rattle.kc_value.specs.declared.symbol.Sym.TheVariants.{Plain, Base, Entry, UserGs}
use Rattle.kc_state.specs.declared.key.Key.{Key}
use Rattle.kc_state.specs.declared.location.Location.{Location}
use Rattle.kc_state.specs.declared.location.Location.TheVariants.{Number, Relative}

-- the base plus k: a number where the base is one, and an offset where there is none and the key has a stack
abbrev pub from_base : Option ℕ → Option ℕ → ℤ → Option Location
from_base (Some base) stack k = Some (Number (word (base + cast_unsigned w64 k)))
from_base None (Some s) k = Some (Relative k)
from_base None None k = None

-- by the symbol Base, and else the number where all bits are known
abbrev pub symbol_location : Key → Sym → Option ℕ → Option Location
symbol_location key (Base k) known = from_base key.base key.stack k
symbol_location key Plain known = option_map Number known
symbol_location key (Entry w) known = option_map Number known
symbol_location key UserGs known = option_map Number known

abbrev pub location_of : Key → AbsValue → Option Location
location_of key v = symbol_location key v.sym (bits_single v.bits)
