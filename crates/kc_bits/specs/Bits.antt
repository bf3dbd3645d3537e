-- Known bits of 64-bit words, this project's own; sums and differences are those of tristate numbers, as
-- Linux's BPF verifier computes them.
use Rattle.std.specs.Prelude.{◌≡◌, ℕ, ◌+◌, ◌-◌, ◌%◌, ◌^◌, ◌<◌, Bool, true, cond, ◌&&◌, ◌==◌, bit_and, bit_or, bit_xor, Option, Some, None}
use Rattle.std.specs.Int.{bit_at}
use Rattle.std.specs.Int.Count.{count_leading_zeros}
use Rattle.kc_words.specs.Range.{Range}
use Rattle.kc_words.specs.Span.{Holds}
use Rattle.kc_bits.specs.KnownBits.{KnownBits}

-- both masks are 64-bit words, and no bit is in both
pub record IsValid (b : KnownBits) : Type 0 where
  pub zeros_fit : b.zeros < 2 ^ 64
  pub ones_fit : b.ones < 2 ^ 64
  pub apart : bit_and b.zeros b.ones ≡ 0

-- each known bit is n's bit
abbrev pub StandsFor : KnownBits → ℕ → Type 0
StandsFor b n = (i : ℕ) → (bit_at b.zeros i ≡ 1 → bit_at n i ≡ 0) × (bit_at b.ones i ≡ 1 → bit_at n i ≡ 1)

-- v is the one word that b stands for
abbrev pub IsOnly : KnownBits → ℕ → Type 0
IsOnly b v = StandsFor b v × ((n : ℕ) → n < 2 ^ 64 → StandsFor b n → n ≡ v)

-- the lesser one knows at least the bits of the greater
abbrev pub is_below : KnownBits → KnownBits → Bool
is_below lesser greater =
    (bit_and lesser.zeros greater.zeros == greater.zeros) && (bit_and lesser.ones greater.ones == greater.ones)

-- bits that are known alike on both sides
abbrev pub bits_joined : KnownBits → KnownBits → KnownBits
bits_joined a b = record { zeros = bit_and a.zeros b.zeros; ones = bit_and a.ones b.ones }

abbrev pub nothing_known : KnownBits
nothing_known = record { zeros = 0; ones = 0 }

-- the masks as numbers: more known bits are a greater number
abbrev pub bits_rank : KnownBits → ℕ
bits_rank b = b.zeros + b.ones

abbrev pub word : ℕ → ℕ
word n = n % 2 ^ 64

-- each bit of a word turned round
abbrev pub flipped : ℕ → ℕ
flipped n = 2 ^ 64 - 1 - n

-- all bits of the word v
abbrev pub all_of : ℕ → KnownBits
all_of v = record { zeros = flipped v; ones = v }

abbrev pub unknown : KnownBits → ℕ
unknown b = flipped (bit_or b.zeros b.ones)

-- the number, where all bits are known
abbrev pub bits_single : KnownBits → Option ℕ
bits_single b = cond (unknown b == 0) (Some b.ones) None

-- a bit of these three is known where the operands' known bits decide it
abbrev pub bits_and : KnownBits → KnownBits → KnownBits
bits_and a b = record { zeros = bit_or a.zeros b.zeros; ones = bit_and a.ones b.ones }

abbrev pub bits_or : KnownBits → KnownBits → KnownBits
bits_or a b = record { zeros = bit_and a.zeros b.zeros; ones = bit_or a.ones b.ones }

abbrev pub bits_xor : KnownBits → KnownBits → KnownBits
bits_xor a b = record {
  zeros = bit_or (bit_and a.zeros b.zeros) (bit_and a.ones b.ones);
  ones = bit_or (bit_and a.zeros b.ones) (bit_and a.ones b.zeros);
}

-- the bits of p that are not in u
abbrev pub known_but : ℕ → ℕ → KnownBits
known_but p u = record { zeros = bit_and (flipped p) (flipped u); ones = bit_and p (flipped u) }

-- p is the least sum and q the greatest
abbrev pub bits_add : KnownBits → KnownBits → KnownBits
bits_add a b =
    let p : ℕ = word (a.ones + b.ones) in
    let q : ℕ = word (p + unknown a + unknown b) in
    known_but p (bit_or (bit_or (bit_xor p q) (unknown a)) (unknown b))

-- p + unknown a is the greatest difference and p - unknown b the least
abbrev pub bits_sub : KnownBits → KnownBits → KnownBits
bits_sub a b =
    let p : ℕ = word (a.ones + (2 ^ 64 - b.ones)) in
    known_but p (bit_or (bit_or (bit_xor (word (p + unknown a)) (word (p + (2 ^ 64 - unknown b)))) (unknown a))
    (unknown b))

-- the low n bits of b, with 0 above them
abbrev pub bits_cut : ℕ → KnownBits → KnownBits
bits_cut n b = record { zeros = b.zeros % 2 ^ n + (2 ^ 64 - 2 ^ n); ones = b.ones % 2 ^ n }

-- the bits above the highest one in which the first and the last address of the span differ
abbrev pub bits_prefix : Range → KnownBits
bits_prefix s = known_but s.from (2 ^ (64 - count_leading_zeros 64 (bit_xor s.from (s.to - 1))) - 1)

-- bit i of some two addresses of the span differs
abbrev pub DiffersIn : Range → ℕ → Type 0
DiffersIn s i = (a : ℕ) × (b : ℕ) × Holds s a × Holds s b × (bit_at a i ≡ 0) × (bit_at b i ≡ 1)

-- r stands for f of all words that a and b stand for
abbrev pub IsSound : (ℕ → ℕ → ℕ) → KnownBits → KnownBits → KnownBits → Type 0
IsSound f a b r = (x y : ℕ) → x < 2 ^ 64 → y < 2 ^ 64 → StandsFor a x → StandsFor b y → StandsFor r (f x y)

-- of greater operands the result is greater
abbrev pub IsMonotoneAt : (KnownBits → KnownBits → KnownBits) → KnownBits → KnownBits → Type 0
IsMonotoneAt op a b =
    (greater_a greater_b : KnownBits) → IsValid greater_a → IsValid greater_b → is_below a greater_a ≡ true
    → is_below b greater_b ≡ true →
    is_below (op a b) (op greater_a greater_b) ≡ true
