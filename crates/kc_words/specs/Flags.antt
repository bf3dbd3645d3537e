-- The status flags of RFLAGS: Intel SDM vol. 1, "Status Flags"; vol. 2, ADD, SUB and AND.
use Rattle.std.specs.Prelude.{ℕ, ◌+◌, ◌-◌, ◌%◌, ◌^◌, Bool, cond, not, ◌&&◌, ◌==◌, leb, ltb, count_ones}
use Rattle.std.specs.Int.{bit_at}
use Rattle.kc_words.specs.declared.width.Width.{Width}
use Rattle.kc_words.specs.declared.width.Width.TheVariants.{Byte, Long, Quad}

-- how many bits an operand of this width has
abbrev pub bits_of : Width → ℕ
bits_of Byte = 8
bits_of Long = 32
bits_of Quad = 64

-- what an operand of this width takes of a number
abbrev pub cut : Width → ℕ → ℕ
cut w v = v % 2 ^ bits_of w

-- the top bit of an operand of n bits
abbrev pub sign : ℕ → ℕ → ℕ
sign n v = bit_at v (n - 1)

-- a - b in n bits
abbrev pub difference : ℕ → ℕ → ℕ → ℕ
difference n a b = (a % 2 ^ n + (2 ^ n - b % 2 ^ n)) % 2 ^ n

-- whether the sum of the low n bits of a and b carries out of them
abbrev pub carries : ℕ → ℕ → ℕ → Bool
carries n a b = leb (2 ^ n) (a % 2 ^ n + b % 2 ^ n)

-- whether taking the low n bits of b from those of a borrows from above
abbrev pub borrows : ℕ → ℕ → ℕ → Bool
borrows n a b = ltb (a % 2 ^ n) (b % 2 ^ n)

-- whether a and b have one sign in n bits, and the result r the other
abbrev pub overflows : ℕ → ℕ → ℕ → ℕ → Bool
overflows n a b r = (sign n a == sign n b) && not (sign n r == sign n a)

-- the flag at this place in RFLAGS, where it is set
abbrev pub flag : ℕ → Bool → ℕ
flag place set = cond set (2 ^ place) 0

-- PF (bit 2): the low byte of r has an even number of ones; ZF (bit 6): r is 0; SF (bit 7): its top bit
abbrev pub result_flags : ℕ → ℕ → ℕ
result_flags n r = flag 2 (count_ones (r % 256) % 2 == 0) + flag 6 (r % 2 ^ n == 0) + flag 7 (sign n r == 1)

-- CF (bit 0): a carry out of the top bit; AF (bit 4): a carry out of bit 3; OF (bit 11)
abbrev pub sum_flags : ℕ → ℕ → ℕ → ℕ
sum_flags n a b = flag 0 (carries n a b) + flag 4 (carries 4 a b) + flag 11 (overflows n a b (a + b)) + result_flags n
    (a + b)

-- the same of a - b, with borrows; a is the sum of b and the difference, and overflows as such a sum does
abbrev pub difference_flags : ℕ → ℕ → ℕ → ℕ
difference_flags n a b =
    flag 0 (borrows n a b) + flag 4 (borrows 4 a b) + flag 11 (overflows n b (difference n a b) a) + result_flags n
    (difference n a b)
