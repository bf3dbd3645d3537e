-- Digits read from the first one on. The number so far and the digits left write the whole number, so each turn moves
-- one digit over; a number of i digits is below the i-th power of the radix, so sixteen hexadecimal digits fit 64 bits.
use Rattle.std.proofs.Common.{◌≡◌, ℕ, suc, ◌+◌, ◌-◌, ◌*◌, ◌^◌, ◌<◌, ◌≤◌, Bool, true, List, ◌∷◌, length, drop, get_or, ap, sym, ◌∙◌, arith, lit<}
use Rattle.std.proofs.lemmas.Bool.Decides.{nat_tests}
use Rattle.std.proofs.lemmas.Grind.{common_steps}
use Rattle.std.proofs.lemmas.List.{drop_more, drop_all}
use Rattle.std.proofs.lemmas.List.Elements.{All-get_or}
use Rattle.std.proofs.lemmas.List.Sums.{AllPass-from_list_all}
use Rattle.std.proofs.Math.Nat.{pow-le-pow_right, pow-suc}
use Rattle.std.specs.Char.{digit_value, is_ascii_digit}
use Rattle.std.specs.List.{list_all}
use Rattle.std.specs.Str.Parse.{digits_value_after}
use Rattle.kc_trace.specs.Numbers.{is_lower_digit}

pub lower_value : (c : ℕ) → is_lower_digit c ≡ true → digit_value c < 16
lower_value c h = grind (arith, nat_tests, common_steps)

pub decimal_range : (c : ℕ) → is_ascii_digit c ≡ true → (48 ≤ c) × (c ≤ 57)
decimal_range c h = grind (arith, nat_tests, common_steps)

pub decimal_value : (c : ℕ) → is_ascii_digit c ≡ true → digit_value c ≡ c - 48
decimal_value c h = grind (arith, nat_tests, common_steps)

-- one digit moves over
pub value_more : (radix n i c : ℕ) (ds : List ℕ) (due : ℕ) → i < length ds → c ≡ get_or ds i c
    → digits_value_after radix n (drop i ds) ≡ due → digits_value_after radix (n * radix + digit_value c)
    (drop (i + 1) ds) ≡ due
value_more radix n i c ds due within is so_far =
    sym (ap (digits_value_after radix n) (drop_more ds i c within ∙ ap (λ y. y ∷ drop (i + 1) ds) (sym is))) ∙ so_far

pub value_done : (radix n i : ℕ) (ds : List ℕ) (due : ℕ) → length ds ≤ i → digits_value_after radix n (drop i ds) ≡ due
    → n ≡ due
value_done radix n i ds due end so_far = sym (ap (digits_value_after radix n) (drop_all i ds end)) ∙ so_far

-- each digit passes the test
pub digit_passes : (p : ℕ → Bool) (ds : List ℕ) (i d : ℕ) → list_all p ds ≡ true → i < length ds → p (get_or ds i d)
    ≡ true
digit_passes p ds i d all within = All-get_or (λ x. p x ≡ true) ds i d within (AllPass-from_list_all p ds all)

pub hex_step : (n i v : ℕ) → n < 16 ^ i → i < 16 → v < 16 → n * 16 + v < 16 ^ (i + 1)
hex_step n i v below within digit =
    let next : i + 1 ≡ suc i = omega arith in
    let power : 16 ^ (i + 1) ≡ 16 ^ i * 16 = ap (λ k. 16 ^ k) next ∙ pow-suc 16 i in
    omega (arith, below, digit, power)

pub hex_bound : (k : ℕ) → k ≤ 16 → 16 ^ k ≤ 2 ^ 64
hex_bound k h = pow-le-pow_right {n = 16} (lit< tt) h

pub decimal_step : (n i v : ℕ) → n < 10 ^ i → i < 7 → v < 10 → n * 10 + v < 10 ^ (i + 1)
decimal_step n i v below within digit =
    let next : i + 1 ≡ suc i = omega arith in
    let power : 10 ^ (i + 1) ≡ 10 ^ i * 10 = ap (λ k. 10 ^ k) next ∙ pow-suc 10 i in
    omega (arith, below, digit, power)

pub decimal_bound : (k : ℕ) → k ≤ 7 → 10 ^ k ≤ 10000000
decimal_bound k h = pow-le-pow_right {n = 10} (lit< tt) h

pub hex_fits : (n i v : ℕ) → n < 16 ^ i → i < 16 → v < 16 → n * 16 + v < 2 ^ 64
hex_fits n i v below within digit =
    let step = hex_step n i v below within digit in
    let bound = hex_bound (i + 1) (omega (arith, within)) in
    omega (arith, step, bound)

pub decimal_fits : (n i v : ℕ) → n < 10 ^ i → i < 7 → v < 10 → n * 10 + v < 10000000
decimal_fits n i v below within digit =
    let step = decimal_step n i v below within digit in
    let bound = decimal_bound (i + 1) (omega (arith, within)) in
    omega (arith, step, bound)
