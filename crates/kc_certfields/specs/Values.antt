-- Reading symbolic values, this project's own.
use Rattle.std.specs.Prelude.{ℕ, ◌^◌, ◌==◌, nat_lt, if◌then◌else◌, bit_and, List, [], ◌∷◌, ◌++◌, Ok, Err}
use Rattle.std.specs.Int.{w64, cast_signed}
use Rattle.kc_rules.specs.Rules.{◌>>=◌}
use Rattle.kc_value.specs.AbsValue.{AbsValue}
use Rattle.kc_value.specs.declared.symbol.Sym.{Sym}
use Rattle.kc_value.specs.declared.symbol.Sym.TheVariants.{Plain, Base, Entry, UserGs}
use Rattle.kc_certfields.specs.Fault.{fault}
use Rattle.kc_certfields.specs.declared.fault.CertKind.TheVariants.{Range}
use Rattle.kc_certfields.specs.Rest.{Rest}
use Rattle.kc_certfields.specs.Reads.{Reading, in_range, times}
use Rattle.kc_certfields.specs.Numbers.{u8_at, u32_at, u64_at}

unfoldable pub offset_at : Reading Sym
offset_at i = do
  k ← u64_at i
  Ok (Base (cast_signed w64 k.0), k.1)

unfoldable pub word_at : Reading Sym
word_at i = do
  w ← u8_at i
  _ ← in_range (nat_lt w.0 20) i.at
  Ok (Entry w.0, w.1)

-- what follows the tag, which is at this offset
abbrev pub symbol_after : ℕ → ℕ → Reading Sym
symbol_after at tag j =
    if tag == 0 then Ok (Plain, j) else
    if tag == 1 then offset_at j else
    if tag == 2 then word_at j else
    if tag == 3 then Ok (UserGs, j) else Err (fault Range at)

-- a tag, and what it asks for
unfoldable pub symbol_at : Reading Sym
symbol_at i = do
  tag ← u8_at i
  symbol_after i.at tag.0 tag.1

-- a bit that is known as 0 and as 1 is a fault of the value
unfoldable pub value_at : Reading AbsValue
value_at i = do
  sym ← symbol_at i
  zeros ← u64_at sym.1
  ones ← u64_at zeros.1
  _ ← in_range (bit_and zeros.0 ones.0 == 0) i.at
  stacks ← u32_at ones.1
  _ ← in_range (nat_lt stacks.0 (2 ^ 17)) ones.1.at
  Ok (record { sym = sym.0; bits = record { zeros = zeros.0; ones = ones.0 }; stacks = stacks.0 }, stacks.1)

-- a value more
abbrev pub next_value : List AbsValue → Reading (List AbsValue)
next_value vs i = do
  v ← value_at i
  Ok (vs ++ v.0 ∷ [], v.1)

abbrev pub values_at : ℕ → Reading (List AbsValue)
values_at n i = times next_value n [] i
