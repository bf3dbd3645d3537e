-- Numbers in memory, byte by byte, where addresses wrap at 2^64. A read depends on its own bytes alone, is what was
-- written there, and parts into the reads of its parts; each by induction on the number of bytes, of which the first is
-- the one at the address and the others those from the next address on.
use Rattle.std.proofs.Common.{◌≡◌, ℕ, zero, suc, ◌+◌, ◌-◌, ◌*◌, ◌/◌, ◌%◌, ◌^◌, ◌<◌, ◌≤◌, Bool, true, false, cond, eqb, arith, refl, sym, ap, ◌∙◌, mod-lt, mul_comm, mul_assoc}
use Rattle.std.proofs.lemmas.Bool.{eqb-true, eqb-false}
use Rattle.std.proofs.lemmas.Nat.{mod-mul-add, div-mul-add}
use Rattle.std.proofs.Math.Nat.{div-add-mod, mul_left_comm}
use Rattle.std.proofs.Math.Numerals.{unary_clauses}
use Rattle.kc_bits.specs.Bits.{word}
use Rattle.kc_mem.specs.Memory.{Bytes, AreBytes, byte, put, next, read, write}
use Rattle.kc_mem.proofs.BytesLemmas.{byte-put}
use Rattle.kc_mem.proofs.NumberLemmas.{read_small}
use Rattle.kc_regions.specs.Layout.{InBytes}

-- ---- bytes of a run

first_in : (a n : ℕ) → a < 2 ^ 64 → InBytes a a (suc n)
first_in a n fits = omega (arith, fits)

next_fits : (a : ℕ) → next a < 2 ^ 64
next_fits a = omega arith

next_word : (a : ℕ) → word a < 2 ^ 64
next_word a = omega arith

later_in : (x a n : ℕ) → a < 2 ^ 64 → x < 2 ^ 64 → InBytes x (next a) n → InBytes x a (suc n)
later_in x a n fits low inside = omega (arith, fits, low, inside)

-- the first byte isn't among those that follow, unless there are 2^64
first_out : (a n : ℕ) → a < 2 ^ 64 → n < 2 ^ 64 → InBytes a (next a) n → ⊥
first_out a n fits few inside = omega (arith, fits, few, inside)

-- ---- one byte

chosen_other : {A : Type 0} (b : Bool) (q a : ℕ) (x y : A) → eqb q a ≡ b → (q ≡ a → ⊥) → cond b x y ≡ y
chosen_other true q a x y e other = absurd (other (eqb-true q a e))
chosen_other false q a x y e other = refl

byte_elsewhere : (m : Bytes) (a v q : ℕ) → (q ≡ a → ⊥) → byte (put m a v) q ≡ byte m q
byte_elsewhere m a v q other = byte-put m a v q ∙ chosen_other (eqb q a) q a v (byte m q) refl other

chosen_same : {A : Type 0} (b : Bool) (q : ℕ) (x y : A) → eqb q q ≡ b → cond b x y ≡ x
chosen_same true q x y e = refl
chosen_same false q x y e = absurd (eqb-false q q e refl)

byte_here : (m : Bytes) (a v : ℕ) → byte (put m a v) a ≡ v
byte_here m a v = byte-put m a v a ∙ chosen_same (eqb a a) a v (byte m a) refl

-- ---- reads and writes

-- where the bytes are alike, so is the number
pub read_agree : (m other : Bytes) (a n : ℕ) → a < 2 ^ 64
    → ((x : ℕ) → x < 2 ^ 64 → InBytes x a n → byte m x ≡ byte other x) → read m a n ≡ read other a n
unfolding read
read_agree m other a zero fits same = refl
read_agree m other a (suc n) fits same =
    let first = same a fits (first_in a n fits) in
    let rest = read_agree m other (next a) n (next_fits a) (λ x low h. same x low (later_in x a n fits low h)) in
    λ i. first i + 256 * rest i

-- a write changes its own bytes alone
pub write_elsewhere : (m : Bytes) (a n v x : ℕ) → a < 2 ^ 64 → x < 2 ^ 64 → (InBytes x a n → ⊥)
    → byte (write m a n v) x ≡ byte m x
unfolding write
write_elsewhere m a zero v x fits low out = refl
write_elsewhere m a (suc n) v x fits low out =
    let here : x ≡ a → ⊥ = λ e. out (omega (arith, e, fits)) in
    write_elsewhere (put m a (v % 256)) (next a) n (v / 256) x (next_fits a) low
    (λ h. out (later_in x a n fits low h))
    ∙ byte_elsewhere m a (v % 256) x here

cut_more : (v p : ℕ) → 0 < p → v % 256 + 256 * (v / 256 % p) ≡ v % (256 * p)
cut_more v p some =
    let q = v / 256 / p in
    let r = v / 256 % p in
    let whole : p * q + r ≡ v / 256 = div-add-mod (v / 256) p in
    let small : r < p = mod-lt (v / 256) some in
    let turned : q * (256 * p) ≡ 256 * (q * p) = mul_left_comm q 256 p in
    let swapped : q * p ≡ p * q = omega arith in
    let sum : q * (256 * p) + (v % 256 + 256 * r) ≡ v = omega (arith, whole, turned, swapped) in
    sym (mod-mul-add q (256 * p) (v % 256 + 256 * r) (omega (arith, small))) ∙ ap (λ x. x % (256 * p)) sum

bytes_pos : (n : ℕ) → 0 < 256 ^ n
bytes_pos zero = omega arith
bytes_pos (suc n) =
    let unary : 256 ^ suc n ≡ 256 ^ n * 256 = simp unary_clauses refl in
    omega (arith, unary, bytes_pos n)

-- what is written is read, cut to its bytes
pub read-write : (m : Bytes) (a n v : ℕ) → a < 2 ^ 64 → n < 2 ^ 64 → read (write m a n v) a n ≡ v % 256 ^ n
unfolding read write
read-write m a zero v fits few = omega arith
read-write m a (suc n) v fits few =
    let start = put m a (v % 256) in
    let first : byte (write start (next a) n (v / 256)) a ≡ v % 256 =
    write_elsewhere start (next a) n (v / 256) a (next_fits a) fits (first_out a n fits (omega (arith, few)))
    ∙ byte_here m a (v % 256) in
    let rest : read (write start (next a) n (v / 256)) (next a) n ≡ v / 256 % 256 ^ n =
    read-write start (next a) n (v / 256) (next_fits a) (omega (arith, few)) in
    let unary : 256 ^ suc n ≡ 256 ^ n * 256 = simp unary_clauses refl in
    let power : 256 * 256 ^ n ≡ 256 ^ suc n = omega (arith, unary) in
    (λ i. first i + 256 * rest i) ∙ cut_more v (256 ^ n) (bytes_pos n) ∙ ap (λ x. v % x) power

-- a read of n + k bytes is one of n, and one of k above it
pub read_parts : (m : Bytes) (a n k : ℕ) → a < 2 ^ 64
    → read m a (n + k) ≡ read m a n + 256 ^ n * read m (word (a + n)) k
unfolding read
read_parts m a zero k fits =
    let same : a ≡ word (a + 0) = omega (arith, fits) in
    let rest : read m a k ≡ read m (word (a + 0)) k = ap (λ x. read m x k) same in
    let count : 0 + k ≡ k = omega arith in
    let length : read m a (0 + k) ≡ read m a k = ap (read m a) count in
    omega (arith, length, rest)
read_parts m a (suc n) k fits =
    let count : suc n + k ≡ suc (n + k) = omega arith in
    let length : read m a (suc n + k) ≡ byte m a + 256 * read m (next a) (n + k) = ap (read m a) count in
    let parts = read_parts m (next a) n k (next_fits a) in
    let at : word (next a + n) ≡ word (a + suc n) = omega arith in
    let high : read m (word (next a + n)) k ≡ read m (word (a + suc n)) k = ap (λ x. read m x k) at in
    let unary : 256 ^ suc n ≡ 256 ^ n * 256 = simp unary_clauses refl in
    let high_part : 256 ^ n * read m (word (next a + n)) k ≡ 256 ^ n * read m (word (a + suc n)) k =
    ap (λ x. 256 ^ n * x) high in
    let power : 256 ^ suc n * read m (word (a + suc n)) k ≡ 256 * (256 ^ n * read m (word (a + suc n)) k) =
    ap (λ x. x * read m (word (a + suc n)) k) (unary ∙ mul_comm (256 ^ n) 256)
    ∙ mul_assoc 256 (256 ^ n) (read m (word (a + suc n)) k) in
    omega (arith, length, parts, high_part, power)

div_parts : (low p rest : ℕ) → low < p → (low + p * rest) / p ≡ rest
div_parts low p rest small =
    let turned : low + p * rest ≡ rest * p + low = omega (arith, mul_comm p rest) in
    ap (λ x. x / p) turned ∙ div-mul-add rest p low small

mod_parts : (low p rest : ℕ) → low < p → (low + p * rest) % p ≡ low
mod_parts low p rest small =
    let turned : low + p * rest ≡ rest * p + low = omega (arith, mul_comm p rest) in
    ap (λ x. x % p) turned ∙ mod-mul-add rest p low small

-- part of a word: the n bytes from its byte off on are these bytes of its number
pub read_part : (m : Bytes) (a off n : ℕ) → AreBytes m → a < 2 ^ 64 → off + n ≤ 8
    → read m (word (a + off)) n ≡ read m a 8 / 256 ^ off % 256 ^ n
read_part m a off n are fits few =
    let rest = 8 - off - n in
    let here = word (a + off) in
    let all : off + (n + rest) ≡ 8 = omega (arith, few) in
    let low = read m a off in
    let mid = read m here n in
    let high = read m (word (here + n)) rest in
    let whole : read m a 8 ≡ low + 256 ^ off * (mid + 256 ^ n * high) =
    ap (read m a) (sym all) ∙ read_parts m a off (n + rest) fits
    ∙ ap (λ x. low + 256 ^ off * x) (read_parts m here n rest (next_word (a + off))) in
    let upper : read m a 8 / 256 ^ off ≡ mid + 256 ^ n * high =
    ap (λ x. x / 256 ^ off) whole
    ∙ div_parts low (256 ^ off) (mid + 256 ^ n * high) (read_small m a off are) in
    sym (ap (λ x. x % 256 ^ n) upper ∙ mod_parts mid (256 ^ n) high (read_small m here n are))
