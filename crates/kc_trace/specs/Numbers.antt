-- The numbers of a trace: this project's own.
use Rattle.std.specs.Prelude.{codes, ℕ, ◌^◌, Bool, ◌&&◌, ◌||◌, nat_eq, nat_le, nat_lt, List, length, drop, Option, Some, None, if◌then◌else◌}
use Rattle.std.specs.Char.{is_ascii_digit}
use Rattle.std.specs.List.{list_all, starts_with}
use Rattle.std.specs.Result.{result_ok}
use Rattle.std.specs.Str.Parse.{digits_value}
use Rattle.hex.specs.Hex.{decode_of}

-- 0 to 9 and a to f
abbrev pub is_lower_digit : ℕ → Bool
is_lower_digit c = (nat_le 0x30 c && nat_le c 0x39) || (nat_le 0x61 c && nat_le c 0x66)

-- so many digits
abbrev pub are_digits : (ℕ → Bool) → ℕ → List ℕ → Bool
are_digits digit most word = (nat_le 1 (length word) && nat_le (length word) most) && list_all digit word

-- the number that 1 to 16 lower-case hexadecimal digits write
abbrev pub hexadecimal : List ℕ → Option ℕ
hexadecimal digits = if are_digits is_lower_digit 16 digits then Some (digits_value 16 digits) else None

-- `0x` and such digits
abbrev pub number : List ℕ → Option ℕ
number word = if starts_with nat_eq word (codes "0x") then hexadecimal (drop 2 word) else None

-- 1 to 7 decimal digits
abbrev pub decimal : List ℕ → Option ℕ
decimal word = if are_digits is_ascii_digit 7 word then Some (digits_value 10 word) else None

-- a number below the bound
abbrev pub below : ℕ → Option ℕ → Option ℕ
below bound None = None
below bound (Some n) = if nat_lt n bound then Some n else None

-- the number of an error code
abbrev pub code : List ℕ → Option ℕ
code word = below (2 ^ 32) (number word)

-- the number of a vector
abbrev pub vector : List ℕ → Option ℕ
vector word = below 256 (decimal word)

-- 1 to 4,096 bytes, two hexadecimal digits of either case for each
abbrev pub bytes : List ℕ → Option (List ℕ)
bytes word = if nat_le 2 (length word) && nat_le (length word) 8192 then result_ok (decode_of word) else None
