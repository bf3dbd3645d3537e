-- Address texts. A number: hexadecimal digits are no sign and at most sixteen of them write a number below 2^64, so
-- `from_str_radix` reads them all; the bound goes by induction over the digits, from the first on. A name: where no
-- byte is `+`, none is found.
use Rattle.std.proofs.Common.{◌≡◌, ℕ, suc, not, ◌+◌, ◌*◌, ◌^◌, ◌<◌, ◌≤◌, Bool, true, false, ◌||◌, ◌==◌, cond, List, [], ◌∷◌, length, Some, None, Result, Ok, Err, refl, subst, arith, rules, lit<}
use Rattle.std.proofs.lemmas.Bool.{and_parts}
use Rattle.std.proofs.lemmas.Bool.Decides.{nat_tests}
use Rattle.std.proofs.lemmas.Grind.{common_steps}
use Rattle.std.proofs.Math.Nat.{pow-le-pow_right, pow-suc}
use Rattle.std.specs.Char.{digit_value, is_ascii_hexdigit}
use Rattle.std.specs.List.{list_all, list_any, position_or_len, before_first, after_first}
use Rattle.std.proofs.lemmas.List.{take_all}
use Rattle.std.specs.Result.{result_ok, OkIff}
use Rattle.std.specs.Str.Parse.{AllDigits, IsNumeral, digits_value, digits_value_after, without_leading_plus, ParsesUnsigned}
use Rattle.kc_config.specs.Addresses.{is_plus, number_text, symbol, symbol_text}

-- a hexadecimal digit has a value below 16, and isn't `+`
pub hex_value : (c : ℕ) → is_ascii_hexdigit c ≡ true → digit_value c < 16
hex_value c h = grind (arith, nat_tests, common_steps)

pub hex_no_plus : (c : ℕ) → is_ascii_hexdigit c ≡ true → (c == 43) ≡ false
hex_no_plus c h = grind (arith, nat_tests, common_steps)

pub hex_digits : (ds : List ℕ) → list_all is_ascii_hexdigit ds ≡ true → AllDigits 16 ds
hex_digits [] h = tt
hex_digits (c ∷ cs) h =
    let (here, more) = and_parts (is_ascii_hexdigit c) (list_all is_ascii_hexdigit cs) h in
    (hex_value c here, hex_digits cs more)

pub no_sign : (ds : List ℕ) → list_all is_ascii_hexdigit ds ≡ true → without_leading_plus ds ≡ ds
no_sign [] h = refl
no_sign (c ∷ cs) h =
    let (here, more) = and_parts (is_ascii_hexdigit c) (list_all is_ascii_hexdigit cs) h in
    rw (hex_no_plus c here)

step_bound : (n d p : ℕ) → d < 16 → (n * 16 + d + 1) * p ≤ (n + 1) * (p * 16)
step_bound n d p h = grind (arith, common_steps)

pub value_bound : (n : ℕ) (ds : List ℕ) → AllDigits 16 ds → digits_value_after 16 n ds < (n + 1) * 16 ^ length ds
value_bound n [] h = omega arith
value_bound n (c ∷ cs) h =
    let p = 16 ^ length cs in
    let below : digits_value_after 16 (n * 16 + digit_value c) cs < (n * 16 + digit_value c + 1) * p =
    value_bound (n * 16 + digit_value c) cs h.1 in
    let step : (n * 16 + digit_value c + 1) * p ≤ (n + 1) * (p * 16) = step_bound n (digit_value c) p h.0 in
    let last : digits_value_after 16 (n * 16 + digit_value c) cs < (n + 1) * (p * 16) = omega (arith, below, step) in
    rw (pow-suc 16 (length cs)) last

pub power_bound : (k : ℕ) → k ≤ 16 → 16 ^ k ≤ 2 ^ 64
power_bound k h = pow-le-pow_right {n = 16} (lit< tt) h

pub value_fits : (ds : List ℕ) → AllDigits 16 ds → length ds ≤ 16 → digits_value 16 ds < 2 ^ 64
value_fits ds h short =
    let bound : digits_value 16 ds < 1 * 16 ^ length ds = value_bound 0 ds h in
    omega (arith, bound, power_bound (length ds) short)

pub ok_from_iff : {T E : Type 0} (r : Result T E) (P : Type 0) (v : T) → OkIff r P v → P → result_ok r ≡ Some v
ok_from_iff (Ok x) P v h p = search (rules, h)
ok_from_iff (Err e) P v h p = search (rules, h, p)

pub digits_parse : {E : Type 0} (ds : List ℕ) (r : Result ℕ E) → list_all is_ascii_hexdigit ds ≡ true → 1 ≤ length ds
    → length ds ≤ 16
    → ParsesUnsigned 64 16 ds r → result_ok r ≡ Some (digits_value 16 ds)
digits_parse {E} ds r all some short parsed =
    let digits = hex_digits ds all in
    let P : List ℕ → Type 0 = λ bs. OkIff r (IsNumeral 16 bs × (digits_value 16 bs < 2 ^ 64)) (digits_value 16 bs) in
    ok_from_iff r _ _ (subst P (no_sign ds all) parsed) ((omega arith, digits), value_fits ds digits short)

-- where no byte passes the test, none is there
none_step : (b any : Bool) (rest len : ℕ) → cond (not b) (1 + rest) 0 ≡ suc len → (rest ≡ len → any ≡ false)
    → (b || any) ≡ false
none_step true any rest len h more = absurd (omega (arith, h))
none_step false any rest len h more = more (omega (arith, h))

pub none_passes : (p : ℕ → Bool) (s : List ℕ) → position_or_len p s ≡ length s → list_any p s ≡ false
none_passes p [] h = refl
none_passes p (c ∷ cs) h = none_step (p c) (list_any p cs) (position_or_len p cs) (length cs) h (none_passes p cs)

whole_text : (p : ℕ → Bool) (s : List ℕ) → position_or_len p s ≡ length s → before_first p s ≡ s
whole_text p s h = take_all (position_or_len p s) s (omega (arith, h))

-- a text without `+` is a name
pub plain_name : (text : List ℕ) → (length text == 0) ≡ false → position_or_len is_plus text ≡ length text
    → symbol_text text ≡ Some (symbol text 0)
plain_name text filled none = rw (whole_text is_plus text none, filled, none_passes is_plus text none) refl

-- where a byte passes the test before the end, one is there
some_step : (b any : Bool) (rest len : ℕ) → cond (not b) (1 + rest) 0 < suc len → (rest < len → any ≡ true)
    → (b || any) ≡ true
some_step true any rest len h more = refl
some_step false any rest len h more = more (omega (arith, h))

pub some_passes : (p : ℕ → Bool) (s : List ℕ) → position_or_len p s < length s → list_any p s ≡ true
some_passes p [] h = absurd (omega (arith, h))
some_passes p (c ∷ cs) h = some_step (p c) (list_any p cs) (position_or_len p cs) (length cs) h (some_passes p cs)

-- a name, `+`, and then a number or nothing of that form
pub name_and_number : (text name rest : List ℕ) (n : ℕ) → name ≡ before_first is_plus text
    → rest ≡ after_first is_plus text
    → position_or_len is_plus text < length text → (length name == 0) ≡ false → Some n ≡ number_text rest
    → symbol_text text ≡ Some (symbol name n)
name_and_number text name rest n front back within filled read =
    rw (← front, ← back, filled, some_passes is_plus text within, ← read) refl

pub name_and_text : (text name rest : List ℕ) → name ≡ before_first is_plus text → rest ≡ after_first is_plus text
    → position_or_len is_plus text < length text → (length name == 0) ≡ false → None ≡ number_text rest
    → symbol_text text ≡ None
name_and_text text name rest front back within filled read =
    rw (← front, ← back, filled, some_passes is_plus text within, ← read) refl
