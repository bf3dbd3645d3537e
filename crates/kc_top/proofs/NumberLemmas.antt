-- A number of a command: `parse` reads a text of digits as the number that they write, where it is below 2 ^ 64.
use Rattle.std.proofs.Common.{◌≡◌, ℕ, ◌^◌, ◌<◌, Bool, true, false, List, length, refl, arith, rules}
use Rattle.std.proofs.lemmas.Bool.Decides.{nat_tests}
use Rattle.std.proofs.lemmas.Grind.{common_steps}
use Rattle.std.proofs.lemmas.Str.Parse.{IsNumeralModel, numerals_by_value, parse_digits}
use Rattle.std.specs.Prelude.{Option, Some, None, Result, Ok, Err, nat_le, nat_lt, ◌&&◌}
use Rattle.std.specs.Char.{is_ascii_digit}
use Rattle.std.specs.List.{list_all}
use Rattle.std.specs.Result.{OkIff, result_ok}
use Rattle.std.specs.Str.Parse.{digits_value, ParsesUnsigned}
use Rattle.kc_trace.specs.Numbers.{are_digits, below}
use Rattle.kc_top.specs.Words.{seed_of}

own : IsNumeralModel (λ ds. list_all is_ascii_digit ds ≡ true) (digits_value 10)
own = numerals_by_value (λ ds. list_all is_ascii_digit ds ≡ true) (search rules)

both : (a b : Bool) → (a && b) ≡ true → (a ≡ true) × (b ≡ true)
both true true is = (refl, refl)
both true false is = absurd (cc)
both false b is = absurd (cc)

some_digit : (n : ℕ) → nat_le 1 n ≡ true → 0 < n
some_digit n is = grind (arith, nat_tests, common_steps)

is_below : (n : ℕ) → nat_lt n (2 ^ 64) ≡ true → n < 2 ^ 64
is_below n is = grind (arith, nat_tests, common_steps)

fits_below : (n : ℕ) → n < 2 ^ 64 → nat_lt n (2 ^ 64) ≡ true
fits_below n is = grind (arith, nat_tests, common_steps)

-- a number that is read is the digits' own, and one that isn't is too large
by_value : {E : Type 0} (value count : ℕ) (r : Result ℕ E) → 0 < count →
    OkIff r ((0 < count) × (value < 2 ^ 64)) value → result_ok r ≡ below (2 ^ 64) (Some value)
by_value value count (Ok n) some is = rw (fits_below value is.0.1, is.1) refl
by_value value count (Err e) some fails = by_test (nat_lt value (2 ^ 64)) refl
  where
    by_test : (b : Bool) → nat_lt value (2 ^ 64) ≡ b → ◌≡◌ {A = Option ℕ} None (below (2 ^ 64) (Some value))
    by_test true is = absurd (fails (some, is_below value is))
    by_test false is = rw is refl

pub seed-parsed : {E : Type 0} (word : List ℕ) (r : Result ℕ E) → are_digits is_ascii_digit 20 word ≡ true →
    ParsesUnsigned 64 10 word r → result_ok r ≡ seed_of word
seed-parsed {E} word r digits parses =
    let parts = both (nat_le 1 (length word) && nat_le (length word) 20) (list_all is_ascii_digit word) digits in
    let some = some_digit (length word) (both (nat_le 1 (length word)) (nat_le (length word) 20) parts.0).0 in
    rw digits (by_value (digits_value 10 word) (length word) r some (parse_digits own 64 word r parses parts.1))
