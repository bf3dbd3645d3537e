-- Addresses as whole numbers. A sum of a base and a signed offset wraps at 2^64; a base in a stack lies at 2^63 or
-- above, so where the sum stays there too, or where a byte of it lies near the base, nothing has wrapped. Each fact is
-- one call of `omega`; the lemmas above go on with their whole numbers and see no remainder.
use Rattle.std.proofs.Common.{◌≡◌, ℕ, ◌+◌, ◌^◌, ◌<◌, ◌≤◌, arith, ℤ, pos, ◌+ℤ◌, ◌≤ℤ◌, neg_ℤ}
use Rattle.std.proofs.lemmas.Int.{ints}
use Rattle.std.specs.Prelude.{FitsSigned}
use Rattle.std.specs.Int.{w64, cast_unsigned}
use Rattle.kc_bits.specs.Bits.{word}
use Rattle.kc_regions.specs.Layout.{InBytes}

-- a sum that stays in the upper half is the whole sum
pub upper_sum : (b : ℕ) (k : ℤ) → 2 ^ 63 ≤ b → b < 2 ^ 64 → FitsSigned w64 k → 2 ^ 63 ≤ word (b + cast_unsigned w64 k)
    → pos (word (b + cast_unsigned w64 k)) ≡ (pos b +ℤ k)
upper_sum b k low high fits up = omega (arith, ints, low, high, fits, up)

-- bytes that end at or below the base and begin at most 4,096 below it
pub record IsNear (b x : ℕ) : Type 0 where
  pub low : b ≤ x + 4096
  pub high : x < b

pub near_below : (b x n : ℕ) (k : ℤ) → 2 ^ 63 + 4096 ≤ b → b < 2 ^ 64 → x < 2 ^ 64 → FitsSigned w64 k
    → neg_ℤ (pos 4096) ≤ℤ k → (k +ℤ pos n) ≤ℤ pos 0 → InBytes x (word (b + cast_unsigned w64 k)) n → IsNear b x
near_below b x n k low high fits signed floor top inside =
    record {
      low = omega (arith, ints, low, high, fits, signed, floor, top, inside);
      high = omega (arith, ints, low, high, fits, signed, floor, top, inside);
    }

-- a number in [from, to) that moves up by c and stays at or below the base is in [from, to) again
pub moved_up_stays : (from to b : ℕ) (k c : ℤ) → 2 ^ 63 ≤ from → from ≤ b → b < to → to < 2 ^ 64 → FitsSigned w64 k
    → c ≤ℤ pos (2 ^ 63) → from ≤ word (b + cast_unsigned w64 k) → pos 0 ≤ℤ c → (k +ℤ c) ≤ℤ pos 0
    → (from ≤ word (b + cast_unsigned w64 (k +ℤ c))) × (word (b + cast_unsigned w64 (k +ℤ c)) < to)
moved_up_stays from to b k c low above below high fits few at up stays = (
  omega (arith, ints, low, above, below, high, fits, few, at, up, stays),
  omega (arith, ints, low, above, below, high, fits, few, at, up, stays),
)

-- bytes that don't wrap rise from the first one
pub rising_byte : (x a n : ℕ) → x < 2 ^ 64 → a < 2 ^ 64 → a + n ≤ 2 ^ 64 → InBytes x a n → (a ≤ x) × (x < a + n)
rising_byte x a n fits low whole inside = (omega (arith, inside), omega (arith, inside))

pub byte_between : (x a n : ℕ) → x < 2 ^ 64 → a ≤ x → x < a + n → InBytes x a n
byte_between x a n fits low high = omega arith

-- a byte x near a stack that lies among the n bytes from base + k, for any offset k, lies there as a whole number
pub whole_offset : (base x n from to : ℕ) (k : ℤ) → 2 ^ 63 + 4096 ≤ from → to ≤ from + 65536 → from ≤ base → base < to
    → to < 2 ^ 64 → FitsSigned w64 k → n ≤ 65536 → InBytes x (word (base + cast_unsigned w64 k)) n → x < 2 ^ 64
    → from ≤ x + 4096 → x < to → ((pos base +ℤ k) ≤ℤ pos x) × ((pos x +ℤ pos 1) ≤ℤ (pos base +ℤ k +ℤ pos n))
whole_offset base x n from to k h1 h2 h3 h4 h5 fits h6 inside h7 h8 h9 =
    (omega (arith, ints, inside), omega (arith, ints, inside))
