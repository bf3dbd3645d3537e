-- Numbers of several bytes, one byte at a time.
use Rattle.std.proofs.Common.{◌≡◌, ℕ, zero, suc, ◌+◌, ◌-◌, ◌*◌, ◌/◌, ◌%◌, ◌^◌, ◌<◌, ◌≤◌, refl, ap, sym, subst, ◌∙◌, arith, add-one}
use native.Mathlib.Numerals.{unary_clauses}
use Rattle.std.specs.Option.{IfSome, unwrap_or}
use Rattle.std.specs.Prelude.{Option, Some, None}
use Rattle.std.specs.FinMap.{get}
use Rattle.kc_mem.specs.Memory.{Bytes, AreBytes, byte, put, next, read, write}

pub read-one : (m : Bytes) (a : ℕ) → read m a 1 ≡ byte m a
unfolding read
read-one m a = omega arith

pub write-one : (m : Bytes) (a v : ℕ) → v < 256 → write m a 1 v ≡ put m a v
unfolding write
write-one m a v small = ap (put m a) (omega arith)

pub read-none : (m : Bytes) (a : ℕ) → read m a 0 ≡ 0
unfolding read
read-none m a = refl

pub read-suc : (m : Bytes) (a n : ℕ) → read m a (n + 1) ≡ byte m a + 256 * read m (next a) n
unfolding read
read-suc m a n = ap (read m a) (add-one n)

pub write-none : (m : Bytes) (a v : ℕ) → write m a 0 v ≡ m
unfolding write
write-none m a v = refl

pub write-suc : (m : Bytes) (a n v : ℕ) → write m a (n + 1) v ≡ write (put m a (v % 256)) (next a) n (v / 256)
unfolding write
write-suc m a n v = ap (λ k. write m a k v) (add-one n)

byte_small : (o : Option ℕ) → IfSome o (λ v. (0 < v) × (v < 256)) → unwrap_or o 0 < 256
byte_small None h = omega arith
byte_small (Some v) h = h.1

pub read_small : (m : Bytes) (a n : ℕ) → AreBytes m → read m a n < 256 ^ n
unfolding read
read_small m a zero are = omega arith
read_small m a (suc n) are =
    let first : byte m a < 256 = byte_small (get m a) (are a) in
    let rest : read m (next a) n < 256 ^ n = read_small m (next a) n are in
    let power : 256 ^ suc n ≡ 256 ^ n * 256 = simp unary_clauses refl in
    omega arith

powers_rise : (k n m : ℕ) → k + n ≡ m → 256 ^ n ≤ 256 ^ m
powers_rise zero n m is = let same : n ≡ m = omega arith in subst (λ x. 256 ^ n ≤ 256 ^ x) same (omega arith)
powers_rise (suc k) n zero is = absurd (omega arith)
powers_rise (suc k) n (suc m) is =
    let rest : 256 ^ n ≤ 256 ^ m = powers_rise k n m (omega arith) in
    let power : 256 ^ suc m ≡ 256 ^ m * 256 = simp unary_clauses refl in
    omega arith

power_small : (n : ℕ) → n ≤ 8 → 256 ^ n ≤ 2 ^ 64
power_small n le = powers_rise (8 - n) n 8 (omega arith)

-- a number of at most eight bytes is a word
pub read_word : (m : Bytes) (a n : ℕ) → n ≤ 8 → AreBytes m → read m a n < 2 ^ 64
read_word m a n le are = omega (arith, read_small m a n are, power_small n le)

-- a number of at most seven bytes has room for one below it
pub read_shifted : (m : Bytes) (a n : ℕ) → n ≤ 7 → AreBytes m → 256 * read m a n < 2 ^ 64
read_shifted m a n le are = omega (arith, read_small m a n are, powers_rise (7 - n) n 7 (omega arith))

-- one byte more, below those that are read
pub number_more : (m : Bytes) (a size left v b : ℕ) → 0 < left → left ≤ size → v ≡ read m ((a + left) % 2 ^ 64)
    (size - left)
    → b ≡ read m ((a + (left - 1)) % 2 ^ 64) 1 → 256 * v + b ≡ read m ((a + (left - 1)) % 2 ^ 64) (size - (left - 1))
number_more m a size left v b some le is byte_is =
    let at = (a + (left - 1)) % 2 ^ 64 in
    let after : next at ≡ (a + left) % 2 ^ 64 = omega arith in
    let rest : v ≡ read m (next at) (size - left) = is ∙ ap (λ x. read m x (size - left)) (sym after) in
    let one : b ≡ byte m at = byte_is ∙ read-one m at in
    let sum : 256 * v + b ≡ byte m at + 256 * read m (next at) (size - left) = omega arith in
    sum ∙ sym (read-suc m at (size - left)) ∙ ap (read m at) (omega arith)

-- one byte less to write
pub write_more : (m : Bytes) (a size i rest : ℕ) → i < size
    → write (write m a 1 (rest % 256)) (next a) (size - (i + 1)) (rest / 256) ≡ write m a (size - i) rest
write_more m a size i rest lt =
    ap (λ (n : Bytes). write n (next a) (size - (i + 1)) (rest / 256)) (write-one m a (rest % 256) (omega arith))
    ∙ sym (write-suc m a (size - (i + 1)) rest) ∙ ap (λ k. write m a k rest) (omega arith)
