-- Symbols of values, this project's own: their order under Plain, and the number that each names.
use Rattle.std.specs.Prelude.{◌≡◌, ℕ, ◌+◌, ◌<◌, Bool, true, false, cond, ◌==◌, get_or, FitsSigned}
use Rattle.std.specs.Int.{w64, cast_unsigned}
use Rattle.std.specs.Ordering.{int_eq}
use Rattle.kc_bits.specs.Bits.{word}
use Rattle.kc_value.specs.declared.env.ValueEnv.{ValueEnv}
use Rattle.kc_value.specs.declared.symbol.Sym.{Sym}
use Rattle.kc_value.specs.declared.symbol.Sym.TheVariants.{Plain, Base, Entry, UserGs}

-- an offset of 64 bits, or one of the 20 words of an interrupted processor
abbrev pub IsSym : Sym → Type 0
IsSym (Base k) = FitsSigned w64 k
IsSym (Entry w) = w < 20
IsSym _ = Unit {0}

abbrev pub is_same_sym : Sym → Sym → Bool
is_same_sym Plain Plain = true
is_same_sym (Base k) (Base l) = int_eq k l
is_same_sym (Entry v) (Entry w) = v == w
is_same_sym UserGs UserGs = true
is_same_sym _ _ = false

abbrev pub is_plain : Sym → Bool
is_plain Plain = true
is_plain _ = false

-- the same, or the greater is Plain
abbrev pub is_sym_below : Sym → Sym → Bool
is_sym_below lesser greater = cond (is_plain greater) true (is_same_sym lesser greater)

-- unequal symbols give Plain
abbrev pub sym_joined : Sym → Sym → Sym
sym_joined s t = cond (is_same_sym s t) s Plain

abbrev pub sym_rank : Sym → ℕ
sym_rank s = cond (is_plain s) 0 1

-- n is what the symbol names: the base plus k, word w of the interrupted processor, or the user's GS base
abbrev pub Names : Sym → ValueEnv → ℕ → Type 0
Names Plain env n = Unit {0}
Names (Base k) env n = n ≡ word (env.base + cast_unsigned w64 k)
Names (Entry w) env n = n ≡ get_or env.words w 0
Names UserGs env n = n ≡ env.user_gs
