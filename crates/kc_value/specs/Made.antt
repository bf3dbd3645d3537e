-- Values that are made of numbers and of bits, this project's own.
use Rattle.std.specs.Prelude.{◌≡◌, ℕ, ◌%◌, ◌^◌, ◌<◌, true, Option, Some, None, IfSome}
use Rattle.kc_bits.specs.KnownBits.{KnownBits}
use Rattle.kc_bits.specs.Bits.{IsValid, StandsFor, is_below, all_of, bits_single, bits_cut}
use Rattle.kc_value.specs.AbsValue.{AbsValue}
use Rattle.kc_value.specs.Place.{HasPlace, place_bit}
use Rattle.kc_value.specs.Value.{IsValidValue, Represents, all_places, value_below}
use Rattle.kc_value.specs.declared.env.ValueEnv.{ValueEnv}
use Rattle.kc_value.specs.declared.symbol.Sym.TheVariants.{Plain}

-- a stack's number, or none
abbrev pub IsPlace : Option ℕ → Type 0
IsPlace place = IfSome place (λ s. s < 16)

-- the number n, whose place is given: Plain, all bits, and that place
abbrev pub constant : ℕ → Option ℕ → AbsValue
constant n place = record { sym = Plain; bits = all_of n; stacks = 2 ^ place_bit place }

-- Plain with these bits, at any place
abbrev pub of_bits : KnownBits → AbsValue
of_bits b = record { sym = Plain; bits = b; stacks = all_places }

abbrev pub derived_from : (ℕ → Option ℕ) → KnownBits → Option ℕ → AbsValue
derived_from place b (Some n) = constant n (place n)
derived_from place b None = of_bits b

-- the constant where all bits are known, else Plain with these bits, at any place
abbrev pub derived : (ℕ → Option ℕ) → KnownBits → AbsValue
derived place b = derived_from place b (bits_single b)

-- the value with the symbol Plain
abbrev pub plain : AbsValue → AbsValue
plain v = record { sym = Plain; bits = v.bits; stacks = v.stacks }

abbrev pub low_bits : AbsValue → KnownBits
low_bits v = bits_cut 32 v.bits

-- derived of the low 32 bits, with 0 above them
abbrev pub low : (ℕ → Option ℕ) → AbsValue → AbsValue
low place v = derived place (low_bits v)

-- the place is that of the number, where all bits are known
abbrev pub IsPlaceOf : (ℕ → Option ℕ) → KnownBits → Option ℕ → Type 0
IsPlaceOf place b known = (n : ℕ) → bits_single b ≡ Some n → place n ≡ known

-- derived of b stands for each word that b stands for, at its place
abbrev pub DerivedStands : KnownBits → Type 0
DerivedStands b = (place : ℕ → Option ℕ) (env : ValueEnv) (n : ℕ) → n < 2 ^ 64 → StandsFor b n
    → HasPlace env.stacks (place n) n → Represents (derived place b) env n

-- derived of greater bits is greater
abbrev pub DerivedGrows : KnownBits → Type 0
DerivedGrows b =
    (place : ℕ → Option ℕ) (greater : KnownBits) → ((n : ℕ) → IsPlace (place n)) → IsValid greater
    → is_below b greater ≡ true →
    value_below (derived place b) (derived place greater) ≡ true

-- low of v stands for the low 32 bits of each word that v stands for
abbrev pub LowStands : AbsValue → Type 0
LowStands v =
    (place : ℕ → Option ℕ) (env : ValueEnv) (n : ℕ) → n < 2 ^ 64 → Represents v env n
    → HasPlace env.stacks (place (n % 2 ^ 32)) (n % 2 ^ 32) →
    Represents (low place v) env (n % 2 ^ 32)

-- low of a greater value is greater
abbrev pub LowGrows : AbsValue → Type 0
LowGrows v =
    (place : ℕ → Option ℕ) (greater : AbsValue) → ((n : ℕ) → IsPlace (place n)) → IsValidValue greater
    → value_below v greater ≡ true →
    value_below (low place v) (low place greater) ≡ true
