-- Symbolic values, this project's own: order, join and top part by part, and what a value stands for.
use Rattle.std.specs.Prelude.{ℕ, ◌+◌, ◌-◌, ◌^◌, ◌<◌, Bool, ◌&&◌, ◌==◌, bit_and, bit_or}
use Rattle.kc_bits.specs.Bits.{IsValid, StandsFor, is_below, bits_joined, nothing_known, bits_rank}
use Rattle.kc_value.specs.AbsValue.{AbsValue}
use Rattle.kc_value.specs.Place.{LiesIn}
use Rattle.kc_value.specs.Symbol.{IsSym, is_sym_below, sym_joined, sym_rank, Names}
use Rattle.kc_value.specs.declared.env.ValueEnv.{ValueEnv}
use Rattle.kc_value.specs.declared.symbol.Sym.TheVariants.{Plain}

pub record IsValidValue (v : AbsValue) : Type 0 where
  pub sym_fits : IsSym v.sym
  pub bits_fit : IsValid v.bits
  pub stacks_fit : v.stacks < 2 ^ 17

-- the places are a subset
abbrev pub is_subset : ℕ → ℕ → Bool
is_subset lesser greater = bit_and greater lesser == lesser

abbrev pub value_below : AbsValue → AbsValue → Bool
value_below lesser greater =
    is_sym_below lesser.sym greater.sym && (is_below lesser.bits greater.bits && is_subset lesser.stacks greater.stacks)

abbrev pub value_joined : AbsValue → AbsValue → AbsValue
value_joined v w = record {
  sym = sym_joined v.sym w.sym;
  bits = bits_joined v.bits w.bits;
  stacks =
      bit_or v.stacks w.stacks;
}

-- each of the 16 stacks, and outside
abbrev pub all_places : ℕ
all_places = 2 ^ 17 - 1

abbrev pub value_top : AbsValue
value_top = record { sym = Plain; bits = nothing_known; stacks = all_places }

abbrev pub value_rank : AbsValue → ℕ
value_rank v = sym_rank v.sym + bits_rank v.bits + (all_places - v.stacks)

-- the symbol names n, each known bit is n's, and n lies in a place of the set
pub record Represents (v : AbsValue) (env : ValueEnv) (n : ℕ) : Type 0 where
  pub symbol : Names v.sym env n
  pub bits : StandsFor v.bits n
  pub place : LiesIn v.stacks env.stacks n
