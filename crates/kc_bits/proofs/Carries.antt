-- A bit of a sum, by the carry into it.
-- The sum is split at bit i: what lies below carries 0 or 1 into it, and the bit is the sum of both bits and the carry,
-- modulo 2. By the division of both operands by 2 ^ i; omega adds up the quotients.
use Rattle.std.proofs.Common.{◌≡◌, ℕ, ◌+◌, ◌*◌, ◌/◌, ◌%◌, ◌^◌, ◌<◌, ◌≤◌, arith, ap, ◌∙◌}
use Rattle.std.proofs.Math.Nat.{add-mul-div_right}
use Rattle.std.proofs.Math.Pow.{shr_mono}
use Rattle.std.proofs.lemmas.Nat.{shr_split, mod_below, pow_pos, div_below}
use Rattle.std.proofs.lemmas.Nat.Bits.{bit_at-lt}
use Rattle.std.specs.Int.{bit_at}

-- what the low i bits carry into bit i
abbrev pub carry : ℕ → ℕ → ℕ → ℕ
carry a b i = (a % 2 ^ i + b % 2 ^ i) / 2 ^ i

carry-lt : (a b i : ℕ) → carry a b i < 2
carry-lt a b i =
    let p : a % 2 ^ i < 2 ^ i = mod_below a (2 ^ i) (pow_pos i) in
    let q : b % 2 ^ i < 2 ^ i = mod_below b (2 ^ i) (pow_pos i) in
    div_below (a % 2 ^ i + b % 2 ^ i) (2 ^ i) 2 (pow_pos i) (omega arith)

carry-le : (a b c d i : ℕ) → a % 2 ^ i ≤ c % 2 ^ i → b % 2 ^ i ≤ d % 2 ^ i → carry a b i ≤ carry c d i
carry-le a b c d i h k = shr_mono i (omega arith)

pub bit_at-add : (a b i : ℕ) → bit_at (a + b) i ≡ (bit_at a i + bit_at b i + carry a b i) % 2
bit_at-add a b i =
    let qa : ℕ = a / 2 ^ i in
    let qb : ℕ = b / 2 ^ i in
    let low : ℕ = a % 2 ^ i + b % 2 ^ i in
    let split : a + b ≡ low + (qa + qb) * 2 ^ i = omega (arith, shr_split a i, shr_split b i) in
    let high : (a + b) / 2 ^ i ≡ low / 2 ^ i + (qa + qb) = ap (λ (n : ℕ). n / 2 ^ i) split
    ∙ add-mul-div_right low (qa + qb) (pow_pos i) in
    omega (arith, high)

-- a sum between two sums that agree at bit i agrees with them there, where the operands do
pub bit_at-add_between : (v x g w y h i : ℕ) → v % 2 ^ i ≤ x % 2 ^ i → x % 2 ^ i ≤ g % 2 ^ i → w % 2 ^ i ≤ y % 2 ^ i
    → y % 2 ^ i ≤ h % 2 ^ i →
    bit_at v i ≡ bit_at x i → bit_at g i ≡ bit_at x i → bit_at w i ≡ bit_at y i → bit_at h i ≡ bit_at y i →
    bit_at (v + w) i ≡ bit_at (g + h) i → bit_at (x + y) i ≡ bit_at (v + w) i
bit_at-add_between v x g w y h i vx xg wy yh ev eg ew eh same =
    let least = bit_at-add v w i in
    let mid = bit_at-add x y i in
    let most = bit_at-add g h i in
    let up : carry v w i ≤ carry x y i = carry-le v w x y i vx wy in
    let upper : carry x y i ≤ carry g h i = carry-le x y g h i xg yh in
    omega (arith, least, mid, most, same, ev, eg, ew, eh, up, upper, carry-lt g h i, bit_at-lt x i, bit_at-lt y i)
