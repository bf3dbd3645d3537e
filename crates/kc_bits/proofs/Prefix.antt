-- The bits in which all addresses of a span agree.
-- The ends of a span differ at a highest bit: above it both have the same quotient, and so has each address between
-- them, since division keeps order. Below it nothing is known. omega is left the two quotients.
use Rattle.std.proofs.Common.{◌≡◌, ℕ, ◌+◌, ◌-◌, ◌*◌, ◌/◌, ◌%◌, ◌^◌, ◌<◌, ◌≤◌, bit_xor, arith, sym, ap, ◌∙◌, subst, inl, inr, lit≤, add-zero}
use Rattle.std.proofs.lemmas.Bool.{cases_lt}
use Rattle.std.proofs.lemmas.Nat.{shr-shr, shr_high, pow-add, xor_shr, shr_split, pow_pos, leading_length, xor_lt, mod_below}
use Rattle.std.proofs.lemmas.Nat.Bits.{same_from_bits, bit_at_xor, bit_at-zero, bit_at-lt, bit_at_cat_high, bit_at_cat_low, bit_at_ones, bit_at_ones_above}
use Rattle.std.proofs.Math.Nat.{div-eq_of_lt, pow-le-pow_right}
use Rattle.std.proofs.Math.Pow.{shr_mono}
use Rattle.std.specs.Int.{bit_at}
use Rattle.std.specs.Int.Count.{count_leading_zeros}
use Rattle.kc_words.specs.Range.{Range}
use Rattle.kc_words.specs.Span.{Holds}
use Rattle.kc_bits.specs.Bits.{StandsFor, known_but, unknown, bits_prefix, DiffersIn}
use Rattle.kc_bits.proofs.Masks.{known_but-stands, known_but-valid, bit_at-known_but, bit_at-unknown}

same_from_xor : (x y : ℕ) → bit_xor x y ≡ 0 → x ≡ y
same_from_xor x y h = same_from_bits x y (λ i.
    let e : (bit_at x i + bit_at y i) % 2 ≡ 0 = sym (bit_at_xor x y i) ∙ ap (λ (v : ℕ). bit_at v i) h ∙ bit_at-zero i in
    omega (arith, e, bit_at-lt x i, bit_at-lt y i))

-- a bit from m on is one of the number without its low m bits
bit_at-shr : (x m i : ℕ) → m ≤ i → bit_at x i ≡ bit_at (x / 2 ^ m) (i - m)
bit_at-shr x m i h = ap (λ (v : ℕ). bit_at v i) (sym (shr_split x m))
    ∙ bit_at_cat_high (x / 2 ^ m) m (x % 2 ^ m) i (mod_below x (2 ^ m) (pow_pos m)) h

module _ (from last m : ℕ) (low : bit_xor from last < 2 ^ m) where
  same_high : from / 2 ^ m ≡ last / 2 ^ m
  same_high = same_from_xor (from / 2 ^ m) (last / 2 ^ m) (sym (xor_shr from last m) ∙ div-eq_of_lt low)

  -- between two numbers all agree in the bits in which these do from some bit on
  pub between : (a i : ℕ) → from ≤ a → a ≤ last → m ≤ i → bit_at a i ≡ bit_at from i
  between a i h k le =
      let up : from / 2 ^ m ≤ a / 2 ^ m = shr_mono m h in
      let down : a / 2 ^ m ≤ last / 2 ^ m = shr_mono m k in
      let same : a / 2 ^ m ≡ from / 2 ^ m = omega (arith, up, down, same_high) in
      bit_at-shr a m i le ∙ ap (λ (v : ℕ). bit_at v (i - m)) same ∙ sym (bit_at-shr from m i le)

-- where f and l first differ in bit k, each lower bit differs in two numbers between
differs : (f l k i : ℕ) → f ≤ l → f / 2 ^ (k + 1) ≡ l / 2 ^ (k + 1) → bit_at (bit_xor f l) k ≡ 1 → i < k + 1 →
    (a : ℕ) × (b : ℕ) × ((f ≤ a) × (a ≤ l)) × ((f ≤ b) × (b ≤ l)) × (bit_at a i ≡ 0) × (bit_at b i ≡ 1)
differs f l k i le high top h =
    let p : ℕ = 2 ^ k in
    let lower : ℕ = f / p in
    let upper : ℕ = l / p in
    let half_f : lower / 2 ≡ f / 2 ^ (k + 1) = shr-shr f k 1 in
    let half_l : upper / 2 ≡ l / 2 ^ (k + 1) = shr-shr l k 1 in
    let odd : (lower % 2 + upper % 2) % 2 ≡ 1 = sym (bit_at_xor f l k) ∙ top in
    let order : lower ≤ upper = shr_mono k le in
    let even : lower % 2 ≡ 0 = omega (arith, half_f, half_l, high, odd, order) in
    let next : upper ≡ lower + 1 = omega (arith, half_f, half_l, high, odd, order, even) in
    let split_f : lower * p + f % p ≡ f = shr_split f k in
    let split_l : upper * p + l % p ≡ l = shr_split l k in
    let small : f % p < p = mod_below f p (pow_pos k) in
    let edge : upper * p ≡ lower * p + p = ap (λ (n : ℕ). n * p) next ∙ omega arith in
    elim (cases_lt i k) [
      | inl under ↦
          let zero_bit : bit_at (upper * p) i ≡ 0 =
          ap (λ (n : ℕ). bit_at n i) (sym (add-zero (upper * p))) ∙ bit_at_cat_low upper k 0 i under ∙ bit_at-zero i in
          let one_bit : bit_at (lower * p + (p - 1)) i ≡ 1 = bit_at_cat_low lower k (p - 1) i under
          ∙ bit_at_ones k i under in (
            upper * p,
            lower * p + (p - 1),
            (omega (arith, split_f, split_l, small, edge), omega (arith, split_l)),
            (omega (arith, split_f, small), omega (arith, split_l, edge, pow_pos k)),
            zero_bit,
            one_bit,
          )
      | inr above ↦
          let same : i ≡ k = omega arith in (
            f,
            l,
            (omega arith, le),
            (le, omega arith),
            ap (bit_at f) same ∙ even,
            ap (bit_at l) same
                ∙ omega (arith, even, odd),
          )
    ]

-- the number of bits from 0 to the highest 1
record Length (d m : ℕ) : Type 0 where
  count : count_leading_zeros 64 d + m ≡ 64
  below : d < 2 ^ m
  long : 2 ^ m ≤ 2 * d + 1

length_of : (d : ℕ) → d < 2 ^ 64 → Length d (64 - count_leading_zeros 64 d)
length_of d h =
    let r = leading_length 64 d h in
    let is : r.0 ≡ 64 - count_leading_zeros 64 d = omega (arith, r.1) in
    subst (Length d) is (record { count = r.1; below = r.2; long = r.3 })

mask_bit : (m i : ℕ) → bit_at (2 ^ m - 1) i ≡ 0 → m ≤ i
mask_bit m i h = elim (cases_lt i m) [ inl k ↦ absurd (omega (arith, h, bit_at_ones m i k)) | inr k ↦ k ]

module _ (s : Range) (h : s.from < s.to) (fits : s.to < 2 ^ 64) where
  abbrev last : ℕ
  last = s.to - 1

  abbrev differing : ℕ
  differing = bit_xor s.from last

  abbrev bits_open : ℕ
  bits_open = 64 - count_leading_zeros 64 differing

  length_is : Length differing bits_open
  length_is = length_of differing (xor_lt 64 s.from last (omega arith) (omega arith))

  mask_fits : 2 ^ bits_open - 1 < 2 ^ 64
  mask_fits =
      let most : bits_open ≤ 64 = omega arith in
      let le : 2 ^ bits_open ≤ 2 ^ 64 = pow-le-pow_right (lit≤ tt) most in
      omega (arith, le)

  from_fits : s.from < 2 ^ 64
  from_fits = omega arith

  pub prefix_sound : (a : ℕ) → Holds s a → StandsFor (bits_prefix s) a
  prefix_sound a held = known_but-stands s.from (2 ^ bits_open - 1) from_fits mask_fits a (λ i k e.
      between s.from last bits_open length_is.below a i held.0 (omega (arith, held.1)) (mask_bit bits_open i e))

  pub prefix_exact : (i : ℕ) → i < 64 → bit_at (unknown (bits_prefix s)) i ≡ 1 → DiffersIn s i
  prefix_exact i k e = elim (cases_lt i bits_open) [
    | inr above ↦
        let p = s.from in
        let u : ℕ = 2 ^ bits_open - 1 in
        let b = bit_at-known_but p u from_fits mask_fits i k in
        let known = bit_at-unknown (known_but p u) i (known_but-valid p u from_fits mask_fits) k in
        absurd (omega (arith, e, known, b.0, b.1, bit_at_ones_above bits_open i above, bit_at-lt p i))
    | inl under ↦
        let m : ℕ = bits_open - 1 in
        let whole : m + 1 ≡ bits_open = omega arith in
        let below : differing < 2 ^ (m + 1) = subst (λ (n : ℕ). differing < 2 ^ n) (sym whole) length_is.below in
        let long : 2 ^ (m + 1) ≤ 2 * differing + 1 =
        subst (λ (n : ℕ). 2 ^ n ≤ 2 * differing + 1) (sym whole) length_is.long in
        let double : 2 ^ (m + 1) ≡ 2 ^ m * 2 = pow-add 2 m 1 in
        let rest : ℕ = differing - 2 ^ m in
        let split : 1 * 2 ^ m + rest ≡ differing = omega (arith, long, double) in
        let small : rest < 2 ^ m = omega (arith, below, double, split) in
        let shifted : differing / 2 ^ m ≡ 1 = ap (λ (n : ℕ). n / 2 ^ m) (sym split) ∙ shr_high 1 m rest small in
        let top : bit_at differing m ≡ 1 = ap (λ (n : ℕ). n % 2) shifted in
        let r = differs s.from last m i (omega arith) (same_high s.from last (m + 1) below) top
        (omega (arith, whole, under)) in
        (r.0, r.1, (r.2.0, omega (arith, r.2.1)), (r.3.0, omega (arith, r.3.1)), r.4, r.5)
  ]
