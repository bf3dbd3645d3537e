-- Address texts, this project's own: a number, a symbol of the image, or a symbol and a number that is added.
use Rattle.std.specs.Prelude.{codes, ℕ, ◌+◌, ◌^◌, Bool, ◌&&◌, ◌==◌, nat_eq, nat_le, nat_lt, List, length, drop, Option, Some, None, option_map, if◌then◌else◌}
use Rattle.std.specs.Char.{is_ascii_hexdigit}
use Rattle.std.specs.List.{list_all, list_any, starts_with, before_first, after_first}
use Rattle.std.specs.Str.Parse.{digits_value}
use Rattle.kc_image.specs.Image.{address_of}

-- how an address is written
pub data Written : Type 0 where
  number : ℕ → Written
  symbol : List ℕ → ℕ → Written

abbrev pub begins_0x : List ℕ → Bool
begins_0x text = starts_with nat_eq text (codes "0x")

-- 1 to 16 hexadecimal digits of either case
abbrev pub digits_number : List ℕ → Option ℕ
digits_number digits =
    if list_all is_ascii_hexdigit digits && (nat_le 1 (length digits) && nat_le (length digits) 16)
    then Some (digits_value 16 digits) else None

-- `0x` and such digits
abbrev pub number_text : List ℕ → Option ℕ
number_text text = if begins_0x text then digits_number (drop 2 text) else None

abbrev pub is_plus : ℕ → Bool
is_plus byte = byte == 43

-- the name is every byte before the first `+`, and behind that stands the number
abbrev pub symbol_text : List ℕ → Option Written
symbol_text text =
    let name = before_first is_plus text in
    if length name == 0 then None
    else if list_any is_plus text then option_map (symbol name) (number_text (after_first is_plus text))
    else Some (symbol text 0)

-- a text that begins with `0x` is a number or nothing, and any other has a name
abbrev pub written : List ℕ → Option Written
written text = if begins_0x text then option_map number (number_text text) else symbol_text text

-- the address that is meant, a whole number without bound; a name that the image hasn't means none
abbrev pub meant : List (List ℕ × ℕ) → Written → Option ℕ
meant symbols (number n) = Some n
meant symbols (symbol name n) = option_map (λ a. a + n) (address_of symbols name)

-- a sum that is an address
abbrev pub is_address : ℕ → Bool
is_address a = nat_lt a (2 ^ 64)
