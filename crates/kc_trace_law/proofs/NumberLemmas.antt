-- Numbers that are written, then read. The claim: the digits of n are of the wanted kind, at least one and no more than
-- their room, and write n. By induction on the digits that may come (`put_kind`, `put_few`), from the last one on: what
-- comes before keeps the kind, and each division by the base takes one digit of the room. That the digits write n is
-- the library's, and so is the reading of bytes.
use Rattle.std.proofs.Common.{◌≡◌, ◌∙◌, ap, subst, refl, ℕ, zero, suc, ◌+◌, ◌*◌, ◌/◌, ◌%◌, ◌^◌, ◌<◌, ◌≤◌, lit<, lit≤}
use Rattle.std.proofs.Common.{Bool, true, false, cond, ◌&&◌, List, [], ◌∷◌, length, Some, None, arith, nat_eq, nat_lt, nat_le, if◌then◌else◌}
use Rattle.std.proofs.lemmas.Bool.Decides.{nat_tests}
use Rattle.std.proofs.lemmas.Fmt.{digits_is_IsNumeral}
use Rattle.std.proofs.Math.Nat.{div-lt_iff_lt-mul, mod-lt, pow-zero, pow-suc}
use Rattle.std.proofs.lemmas.List.Sums.{list_all-from_AllPass}
use Rattle.std.specs.Fmt.{digits, digits_onto, digit_glyph, decimal as decimal_text}
use Rattle.std.specs.Char.{is_ascii_digit}
use Rattle.std.specs.List.{list_all}
use Rattle.std.specs.Str.Parse.{digits_value}
use Rattle.hex.specs.Hex.{IsBytes, encode_lower, is_hex_digit}
use Rattle.hex.proofs.HexLemmas.{decode_of-encode_lower, decode_of-ok}
use Rattle.kc_trace.specs.Numbers.{is_lower_digit, are_digits, number, decimal, below, code, vector, bytes}
use Rattle.kc_trace_text.specs.Text.{number_text}

-- ---- tests

pub both : (a b : Bool) → a ≡ true → b ≡ true → (a && b) ≡ true
both a b p q = rw (p, q) refl

pub le_test : (a b : ℕ) → a ≤ b → nat_le a b ≡ true
le_test a b h = grind (arith, nat_tests, h)

pub lt_test : (a b : ℕ) → a < b → nat_lt a b ≡ true
lt_test a b h = grind (arith, nat_tests, h)

-- no blank, and no end of a line
abbrev pub is_dark : ℕ → Bool
is_dark c = nat_le 33 c

-- ---- digits

-- each digit of the base passes the test
abbrev Kind : ℕ → (ℕ → Bool) → Type 0
Kind base test = (d : ℕ) → d < base → test (digit_glyph false d) ≡ true

lower_kind : Kind 16 is_lower_digit
lower_kind d h = grind (arith, nat_tests, h)

ascii_kind : Kind 10 is_ascii_digit
ascii_kind d h = grind (arith, nat_tests, h)

dark_kind : (base : ℕ) → base ≤ 16 → Kind base is_dark
dark_kind base most d h = grind (arith, nat_tests, h, most)

either_passes : (test : ℕ → Bool) (b : Bool) (xs ys : List ℕ) → list_all test xs ≡ true → list_all test ys ≡ true
    → list_all test (cond b xs ys) ≡ true
either_passes test true xs ys h k = h
either_passes test false xs ys h k = k

module _ (base : ℕ) (some : 0 < base) where
  put_kind : (test : ℕ → Bool) → Kind base test → (k n : ℕ) (acc : List ℕ) → list_all test acc ≡ true
      → list_all test (digits_onto k base false n acc) ≡ true
  put_kind test kind zero n acc h = h
  put_kind test kind (suc k) n acc h =
      let more : list_all test (digit_glyph false (n % base) ∷ acc) ≡ true = both (test (digit_glyph false (n % base)))
      (list_all test acc) (kind (n % base) (mod-lt n some)) h in
      either_passes test (nat_eq (n / base) 0) (digit_glyph false (n % base) ∷ acc)
      (digits_onto k base false (n / base) (digit_glyph false (n % base) ∷ acc)) more
      (put_kind test kind k (n / base) (digit_glyph false (n % base) ∷ acc) more)

  -- a number below the base to the j needs j digits at most
  few_case : (j n : ℕ) (b : Bool) (acc ds : List ℕ) → nat_eq (n / base) 0 ≡ b → n < base ^ suc j
      → ((i : ℕ) → n / base < base ^ suc i → length ds ≤ suc (length acc) + suc i)
      → length (cond b (digit_glyph false (n % base) ∷ acc) ds) ≤ length acc + suc j
  few_case j n true acc ds e less rest = omega arith
  few_case zero n false acc ds e less rest =
      let power : base ^ suc zero ≡ 1 * base = pow-suc base zero ∙ ap (λ p. p * base) (pow-zero base) in
      let one : n < 1 * base = subst (λ m. n < m) power less in
      let last : n / base < 1 = (div-lt_iff_lt-mul some).1 one in
      absurd (grind (arith, nat_tests, last, e))
  few_case (suc i) n false acc ds e less rest =
      let times : n < base ^ suc i * base = subst (λ m. n < m) (pow-suc base (suc i)) less in
      let fewer = rest i ((div-lt_iff_lt-mul some).1 times) in
      omega (arith, fewer)

  put_few : (k j n : ℕ) (acc : List ℕ) → n < base ^ suc j → length (digits_onto k base false n acc)
      ≤ length acc + suc j
  put_few zero j n acc less = omega arith
  put_few (suc k) j n acc less =
      few_case j n (nat_eq (n / base) 0) acc
      (digits_onto k base false (n / base) (digit_glyph false (n % base) ∷ acc)) refl less
      (λ i h. put_few k i (n / base) (digit_glyph false (n % base) ∷ acc) h)

  digits_kind : (test : ℕ → Bool) → Kind base test → (n : ℕ) → list_all test (digits base false n) ≡ true
  unfolding digits
  digits_kind test kind n = put_kind test kind 64 n [] refl

  digits_few : (j n : ℕ) → n < base ^ suc j → length (digits base false n) ≤ suc j
  unfolding digits
  digits_few j n less = let few = put_few 64 j n [] less in omega (arith, few)

-- ---- numbers

-- the digits of a number are digits, few enough, and write it
read_digits : (base j most n : ℕ) (test : ℕ → Bool) → 2 ≤ base → base ≤ 16 → Kind base test → n < base ^ suc j
    → suc j ≤ most → n < base ^ 64
    → (if are_digits test most (digits base false n) then Some (digits_value base (digits base false n)) else None)
    ≡ Some n
read_digits base j most n test low high kind less room wide =
    let some : 0 < base = omega (arith, low) in
    let numeral = digits_is_IsNumeral base false low high n wide in
    let few = digits_few base some j n less in
    let one : nat_le 1 (length (digits base false n)) ≡ true = le_test 1 (length (digits base false n)) numeral.0.0 in
    let room : nat_le (length (digits base false n)) most ≡ true = le_test (length (digits base false n)) most
    (omega (arith, few, room)) in
    let all = digits_kind base some test kind n in
    rw (one, room, all) (ap Some numeral.1)

pub number_read : (n : ℕ) → n < 2 ^ 64 → number (number_text n) ≡ Some n
number_read n h =
    read_digits 16 15 16 n is_lower_digit (lit≤ tt) (lit≤ tt) lower_kind (omega (arith, h)) (lit≤ tt) (omega (arith, h))

pub code_read : (n : ℕ) → n < 2 ^ 32 → code (number_text n) ≡ Some n
code_read n h =
    let fits : nat_lt n (2 ^ 32) ≡ true = lt_test n (2 ^ 32) h in
    ap (below (2 ^ 32)) (number_read n (omega (arith, h))) ∙ rw fits refl

pub decimal_read : (n : ℕ) → n ≤ 1000000 → decimal (decimal_text n) ≡ Some n
decimal_read n h =
    read_digits 10 6 7 n is_ascii_digit (lit≤ tt) (lit≤ tt) ascii_kind (omega (arith, h)) (lit≤ tt) (omega (arith, h))

pub vector_read : (n : ℕ) → n < 256 → vector (decimal_text n) ≡ Some n
vector_read n h =
    let fits : nat_lt n 256 ≡ true = lt_test n 256 h in
    ap (below 256) (decimal_read n (omega (arith, h))) ∙ rw fits refl

pub number_dark : (n : ℕ) → list_all is_dark (number_text n) ≡ true
number_dark n = digits_kind 16 (lit< tt) is_dark (dark_kind 16 (lit≤ tt)) n

pub decimal_dark : (n : ℕ) → list_all is_dark (decimal_text n) ≡ true
decimal_dark n = digits_kind 10 (lit< tt) is_dark (dark_kind 10 (lit≤ tt)) n

-- ---- bytes

hex_dark : (c : ℕ) → is_hex_digit c ≡ true → is_dark c ≡ true
hex_dark c h = grind (arith, nat_tests, h)

pub bytes_dark : (bs : List ℕ) → IsBytes bs → list_all is_dark (encode_lower bs) ≡ true
bytes_dark bs h =
    let ok = decode_of-ok (encode_lower bs) bs (decode_of-encode_lower bs h) in
    list_all-from_AllPass is_dark (encode_lower bs) (λ k d lt. hex_dark _ (ok.1 k d lt))

pub bytes_read : (bs : List ℕ) → IsBytes bs → 1 ≤ length bs → length bs ≤ 4096 → bytes (encode_lower bs) ≡ Some bs
bytes_read bs h some few =
    let back = decode_of-encode_lower bs h in
    let twice = (decode_of-ok (encode_lower bs) bs back).2 in
    let low : nat_le 2 (length (encode_lower bs)) ≡ true = le_test 2 (length (encode_lower bs))
    (omega (arith, some, twice)) in
    let high : nat_le (length (encode_lower bs)) 8192 ≡ true = le_test (length (encode_lower bs)) 8192
    (omega (arith, few, twice)) in
    rw (low, high, back) refl
