-- The flags of sums and differences, as they are computed, at any width up to 64 bits.
-- The code adds at 64 bits and compares results; the definition adds as numbers and compares with 2 ^ width. Each flag
-- is one equation between the two tests, by the quotient and rest of both operands at the width; omega decides it.
use Rattle.std.proofs.Common.{◌≡◌, ℕ, ◌+◌, ◌-◌, ◌*◌, ◌/◌, ◌%◌, ◌^◌, ◌<◌, ◌≤◌, min, not, ◌&&◌, ◌==◌, leb, ltb, bit_and, bit_xor, arith, sym, ap, ◌∙◌, subst, inl, inr, lit≤}
use Rattle.std.proofs.lemmas.Nat.{and_mask, shr_split, pow_pos, mod_below, pow-add, div_below}
use Rattle.std.proofs.lemmas.Nat.Bits.{bit_at_cat_low, bit_at-lt, bit_at_and, bit_at_xor}
use Rattle.std.proofs.lemmas.Bool.{cases_lt, lt-ltb, le-ltb, le-leb, lt-leb}
use Rattle.std.proofs.lemmas.Bool.Decides.{nat_tests}
use Rattle.std.proofs.Math.Pow.{mod-mod-pow}
use Rattle.std.proofs.Math.Nat.{mod-add-mod, add-mod-mod, add-mod_right, mod-eq_of_lt, mul-add-mod_self_right}
use Rattle.std.specs.Int.{bit_at}
use Rattle.kc_words.specs.declared.width.Width.{Width}
use Rattle.kc_words.specs.declared.width.Width.TheVariants.{Byte, Long, Quad}
use Rattle.kc_words.specs.Flags.{bits_of, sign, carries, borrows, overflows, difference, result_flags}

-- a shorter mask after a longer one
pub mod_of_mod : (m n x : ℕ) → n ≤ m → x % 2 ^ m % 2 ^ n ≡ x % 2 ^ n
mod_of_mod m n x h =
    let e : (m - n) + n ≡ m = omega arith in
    subst (λ (k : ℕ). x % 2 ^ k % 2 ^ n ≡ x % 2 ^ n) e (mod-mod-pow x (m - n) n)

pub bit_at-mod : (x m i : ℕ) → i < m → bit_at (x % 2 ^ m) i ≡ bit_at x i
bit_at-mod x m i h = sym (bit_at_cat_low (x / 2 ^ m) m (x % 2 ^ m) i h) ∙ ap (λ (y : ℕ). bit_at y i) (shr_split x m)

-- the flags of a result don't see the bits above it
pub result_flags-mod : (m n x : ℕ) → 8 ≤ n → n ≤ m → result_flags n (x % 2 ^ m) ≡ result_flags n x
result_flags-mod m n x low high =
    let byte : x % 2 ^ m % 256 ≡ x % 256 = mod_of_mod m 8 x (omega arith) in
    let whole : x % 2 ^ m % 2 ^ n ≡ x % 2 ^ n = mod_of_mod m n x high in
    let top : bit_at (x % 2 ^ m) (n - 1) ≡ bit_at x (n - 1) = bit_at-mod x m (n - 1) (omega arith) in
    rw (byte, whole, top)

-- a sum of two numbers below m, less m where it reaches m, is below each of them exactly where it reached m
wraps : (m r s t : ℕ) → r < m → s < m → 0 < m → t ≡ (r + s) % m → ltb t r ≡ leb m (r + s)
wraps m r s t hr hs pos e =
    elim (cases_lt (r + s) m) [
      | inl h ↦
          let t_is : t ≡ r + s = e ∙ mod-eq_of_lt h in
          le-ltb t r (omega arith) ∙ sym (lt-leb m (r + s) h)
      | inr h ↦
          let back : (r + s - m) + m ≡ r + s = omega arith in
          let small : r + s - m < m = omega arith in
          let t_is : t ≡ r + s - m = e ∙ ap (λ (x : ℕ). x % m) (sym back) ∙ add-mod_right (r + s - m) m
          ∙ mod-eq_of_lt small in
          lt-ltb t r (omega arith) ∙ sym (le-leb m (r + s) h)
    ]

-- a carry out of n bits shows in the sum: its low bits are less than those of an operand
pub carries-below : (m n a b : ℕ) → n ≤ m → ltb ((a + b) % 2 ^ m % 2 ^ n) (a % 2 ^ n) ≡ carries n a b
carries-below m n a b h =
    let cut : (a + b) % 2 ^ m % 2 ^ n ≡ (a % 2 ^ n + b % 2 ^ n) % 2 ^ n =
    mod_of_mod m n (a + b) h ∙ sym (mod-add-mod a (2 ^ n) b) ∙ sym (add-mod-mod (a % 2 ^ n) b (2 ^ n)) in
    wraps (2 ^ n) (a % 2 ^ n) (b % 2 ^ n) _ (mod_below a (2 ^ n) (pow_pos n)) (mod_below b (2 ^ n) (pow_pos n))
    (pow_pos n) cut

both_differ : (x y z : ℕ) → x < 2 → y < 2 → z < 2 → (min ((x + z) % 2) ((y + z) % 2) == 1) ≡ ((x == y) && not (z == x))
both_differ x y z hx hy hz = grind (arith, nat_tests)

both_differ_minus : (x y z : ℕ) → x < 2 → y < 2 → z < 2
    → (min ((x + y) % 2) ((x + z) % 2) == 1) ≡ ((y == z) && not (x == y))
both_differ_minus x y z hx hy hz = grind (arith, nat_tests)

-- overflow of a sum, as the sign of a mask
pub overflows-mask : (m n a b : ℕ) → 0 < n → n ≤ m
    → (sign n (bit_and (bit_xor a ((a + b) % 2 ^ m)) (bit_xor b ((a + b) % 2 ^ m))) == 1) ≡ overflows n a b (a + b)
overflows-mask m n a b pos h =
    let r : ℕ = (a + b) % 2 ^ m in
    let k : ℕ = n - 1 in
    let top : bit_at r k ≡ bit_at (a + b) k = bit_at-mod (a + b) m k (omega arith) in
    let masked : bit_at (bit_and (bit_xor a r) (bit_xor b r)) k ≡ min ((bit_at a k + bit_at r k) % 2)
    ((bit_at b k + bit_at r k) % 2) =
    bit_at_and (bit_xor a r) (bit_xor b r) k ∙ ap (λ (x : ℕ). min x (bit_at (bit_xor b r) k)) (bit_at_xor a r k)
    ∙ ap (λ (x : ℕ). min ((bit_at a k + bit_at r k) % 2) x) (bit_at_xor b r k) in
    ap (λ (x : ℕ). x == 1) masked
    ∙ both_differ (bit_at a k) (bit_at b k) (bit_at r k) (bit_at-lt a k) (bit_at-lt b k) (bit_at-lt r k)
    ∙ ap (λ (x : ℕ). (bit_at a k == bit_at b k) && not (x == bit_at a k)) top

-- a minus b in a whole of big times small, by the quotients and the rests of small
regroup : (qa ra qb rb big small a b whole : ℕ) → qa * small + ra ≡ a → qb * small + rb ≡ b → whole ≡ big * small
    → qb < big → rb < small →
    a + (whole - b) ≡ (qa + (big - qb - 1)) * small + (ra + (small - rb))
regroup qa ra qb rb big small a b whole ea eb ew lt below =
    let d : ℕ = big - qb - 1 in
    let big_is : big ≡ d + qb + 1 = omega arith in
    let whole_is : whole ≡ (d + qb + 1) * small = subst (λ (x : ℕ). whole ≡ x * small) big_is ew in
    omega (arith, whole_is, ea, eb, below)

-- the low bits of a difference that was taken in m bits
pub difference-mod : (m n a b : ℕ) → n ≤ m → b < 2 ^ m → (a + (2 ^ m - b)) % 2 ^ m % 2 ^ n ≡ difference n a b
difference-mod m n a b h fits =
    let e : (m - n) + n ≡ m = omega arith in
    let whole : 2 ^ m ≡ 2 ^ (m - n) * 2 ^ n = ap (λ (k : ℕ). 2 ^ k) (sym e) ∙ pow-add 2 (m - n) n in
    let quotient : b / 2 ^ n < 2 ^ (m - n) =
    div_below b (2 ^ n) (2 ^ (m - n)) (pow_pos n) (subst (λ (x : ℕ). b < x) whole fits) in
    let parts_a : a / 2 ^ n * 2 ^ n + a % 2 ^ n ≡ a = shr_split a n in
    let parts_b : b / 2 ^ n * 2 ^ n + b % 2 ^ n ≡ b = shr_split b n in
    let below : b % 2 ^ n < 2 ^ n = mod_below b (2 ^ n) (pow_pos n) in
    let regrouped : a + (2 ^ m - b) ≡ (a / 2 ^ n + (2 ^ (m - n) - b / 2 ^ n - 1)) * 2 ^
    n + (a % 2 ^ n + (2 ^ n - b % 2 ^ n)) =
    regroup (a / 2 ^ n) (a % 2 ^ n) (b / 2 ^ n) (b % 2 ^ n) (2 ^ (m - n)) (2 ^ n) a b (2 ^ m) parts_a parts_b whole
    quotient below in
    mod_of_mod m n (a + (2 ^ m - b)) h ∙ ap (λ (x : ℕ). x % 2 ^ n) regrouped
    ∙ mul-add-mod_self_right (a / 2 ^ n + (2 ^ (m - n) - b / 2 ^ n - 1)) (2 ^ n) (a % 2 ^ n + (2 ^ n - b % 2 ^ n))

-- overflow of a difference, as the sign of a mask
pub overflows-mask_minus : (m n a b : ℕ) → 0 < n → n ≤ m → b < 2 ^ m →
    (sign n (bit_and (bit_xor a b) (bit_xor a ((a + (2 ^ m - b)) % 2 ^ m))) == 1) ≡ overflows n b (difference n a b) a
overflows-mask_minus m n a b pos h fits =
    let r : ℕ = (a + (2 ^ m - b)) % 2 ^ m in
    let k : ℕ = n - 1 in
    let top : bit_at r k ≡ bit_at (difference n a b) k =
    sym (bit_at-mod r n k (omega arith)) ∙ ap (λ (x : ℕ). bit_at x k) (difference-mod m n a b h fits) in
    let masked : bit_at (bit_and (bit_xor a b) (bit_xor a r)) k ≡ min ((bit_at a k + bit_at b k) % 2)
    ((bit_at a k + bit_at r k) % 2) =
    bit_at_and (bit_xor a b) (bit_xor a r) k ∙ ap (λ (x : ℕ). min x (bit_at (bit_xor a r) k)) (bit_at_xor a b k)
    ∙ ap (λ (x : ℕ). min ((bit_at a k + bit_at b k) % 2) x) (bit_at_xor a r k) in
    ap (λ (x : ℕ). x == 1) masked
    ∙ both_differ_minus (bit_at a k) (bit_at b k) (bit_at r k) (bit_at-lt a k) (bit_at-lt b k) (bit_at-lt r k)
    ∙ ap (λ (x : ℕ). (bit_at b k == x) && not (bit_at a k == bit_at b k)) top

-- each width is in the range that the lemmas ask
pub bits_in_range : (w : Width) → (8 ≤ bits_of w) × (bits_of w ≤ 64)
bits_in_range Byte = (lit≤ tt, lit≤ tt)
bits_in_range Long = (lit≤ tt, lit≤ tt)
bits_in_range Quad = (lit≤ tt, lit≤ tt)

-- a carry out of bit 3, by masks of the low half byte
pub half_carry : (a b : ℕ) → ltb (bit_and ((a + b) % 2 ^ 64) 15) (bit_and a 15) ≡ carries 4 a b
half_carry a b = rw (and_mask ((a + b) % 2 ^ 64) 4, and_mask a 4) (carries-below 64 4 a b (lit≤ tt))

pub half_borrow : (a b : ℕ) → ltb (bit_and a 15) (bit_and b 15) ≡ borrows 4 a b
half_borrow a b = rw (and_mask a 4, and_mask b 4)
