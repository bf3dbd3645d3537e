-- Sums and differences of known bits are sound and monotone. A difference is the sum of the turned first
-- operand and the second, turned: x - y is the complement of (the complement of x) + y.
use Rattle.std.proofs.Common.{◌≡◌, ℕ, ◌+◌, ◌-◌, ◌^◌, ◌<◌, bit_or, bit_xor, arith, sym, ap, ◌∙◌, inl, inr}
use Rattle.std.proofs.lemmas.Bool.{cases_lt}
use Rattle.std.proofs.lemmas.Nat.{or_lt, xor_lt, mod_below, or_comm, and_comm}
use Rattle.std.proofs.lemmas.Nat.Bits.{bit_at_above, bit_at_or, bit_at_xor, bit_at-lt}
use Rattle.std.proofs.Math.Nat.{mod-eq_of_lt, add-mod_right, mod-add-mod}
use Rattle.std.specs.Int.{bit_at}
use Rattle.kc_words.proofs.FlagLemmas.{bit_at-mod}
use Rattle.kc_bits.specs.KnownBits.{KnownBits}
use Rattle.kc_bits.specs.Bits.{IsValid, StandsFor, word, flipped, unknown, bits_add, bits_sub, IsSound, IsMonotoneAt}
use Rattle.kc_bits.specs.BitsLaws.{bits_grow}
use Rattle.kc_bits.proofs.Carries.{bit_at-add_between}
use Rattle.kc_bits.proofs.Masks.{greatest, greatest_fits, ones-unknown, least_stands, greatest_stands, above_least, below_greatest, known_alike, unknown_kept, bit_at-flipped, known_but-valid, known_but-stands, known_but-below}

word_fits : (n : ℕ) → word n < 2 ^ 64
word_fits n = mod_below n (2 ^ 64) (omega arith)

unknown_fits : (b : KnownBits) → unknown b < 2 ^ 64
unknown_fits b = omega arith

-- where the mask of differing ends and of open bits has no bit
open_mask : (p q u v i : ℕ) → bit_at (bit_or (bit_or (bit_xor p q) u) v) i ≡ 0 → (bit_at p i ≡ bit_at q i)
    × (bit_at u i ≡ 0) × (bit_at v i ≡ 0)
open_mask p q u v i h =
    let outer = bit_at_or (bit_or (bit_xor p q) u) v i in
    let inner = bit_at_or (bit_xor p q) u i in
    let ends = bit_at_xor p q i in (
      omega (arith, h, outer, inner, ends, bit_at-lt p i, bit_at-lt q i),
      omega (arith, h, outer, inner),
      omega (arith, h, outer),
    )

closed_mask : (p q u v i : ℕ) → bit_at p i ≡ bit_at q i → bit_at u i ≡ 0 → bit_at v i ≡ 0
    → bit_at (bit_or (bit_or (bit_xor p q) u) v) i ≡ 0
closed_mask p q u v i e h k =
    let outer = bit_at_or (bit_or (bit_xor p q) u) v i in
    let inner = bit_at_or (bit_xor p q) u i in
    let ends = bit_at_xor p q i in
    omega (arith, e, h, k, outer, inner, ends, bit_at-lt p i)

mask_below : (p q u v : ℕ) → p < 2 ^ 64 → q < 2 ^ 64 → u < 2 ^ 64 → v < 2 ^ 64
    → bit_or (bit_or (bit_xor p q) u) v < 2 ^ 64
mask_below p q u v hp hq hu hv =
    or_lt 64 (bit_or (bit_xor p q) u) v (or_lt 64 (bit_xor p q) u (xor_lt 64 p q hp hq) hu) hv

abbrev least_sum : KnownBits → KnownBits → ℕ
least_sum a b = word (a.ones + b.ones)

abbrev greatest_sum : KnownBits → KnownBits → ℕ
greatest_sum a b = word (greatest a + greatest b)

-- the definition's greatest sum, from the least one and the open bits, is the sum of the greatest words
greatest_sum-is : (a b : KnownBits) → IsValid a → IsValid b
    → word (least_sum a b + unknown a + unknown b) ≡ greatest_sum a b
greatest_sum-is a b ha hb =
    let regrouped : least_sum a b + unknown a + unknown b ≡ least_sum a b + (unknown a + unknown b) = omega arith in
    let whole : a.ones + b.ones + (unknown a + unknown b) ≡ greatest a + greatest b =
    omega (arith, ones-unknown a ha, ones-unknown b hb) in
    ap word regrouped ∙ mod-add-mod (a.ones + b.ones) (2 ^ 64) (unknown a + unknown b) ∙ ap word whole

-- where neither operand is open and the least and the greatest sum agree, all sums agree
sums_alike : (a b : KnownBits) (x y i : ℕ) → IsValid a → IsValid b → x < 2 ^ 64 → y < 2 ^ 64 → StandsFor a x
    → StandsFor b y → i < 64 →
    bit_at (unknown a) i ≡ 0 → bit_at (unknown b) i ≡ 0 → bit_at (least_sum a b) i ≡ bit_at (greatest_sum a b) i →
    bit_at (word (x + y)) i ≡ bit_at (least_sum a b) i
sums_alike a b x y i ha hb hx hy s t k ua ub same =
    let known_a = known_alike a x i ha s k ua in
    let known_b = known_alike b y i hb t k ub in
    let least : bit_at (least_sum a b) i ≡ bit_at (a.ones + b.ones) i = bit_at-mod (a.ones + b.ones) 64 i k in
    let most : bit_at (greatest_sum a b) i ≡ bit_at (greatest a + greatest b) i =
    bit_at-mod (greatest a + greatest b) 64 i k in
    let mid : bit_at (word (x + y)) i ≡ bit_at (x + y) i = bit_at-mod (x + y) 64 i k in
    mid
    ∙ bit_at-add_between a.ones x (greatest a) b.ones y (greatest b) i (above_least a x i s)
    (below_greatest a x i ha hx s) (above_least b y i t)
    (below_greatest b y i hb hy t) known_a.0 known_a.1 known_b.0 known_b.1 (sym least ∙ same ∙ most)
    ∙ sym least

abbrev add_mask : KnownBits → KnownBits → ℕ
add_mask a b = bit_or (bit_or (bit_xor (least_sum a b) (word (least_sum a b + unknown a + unknown b))) (unknown a))
    (unknown b)

add_mask-fits : (a b : KnownBits) → add_mask a b < 2 ^ 64
add_mask-fits a b =
    mask_below (least_sum a b) (word (least_sum a b + unknown a + unknown b)) (unknown a) (unknown b)
    (word_fits (a.ones + b.ones))
    (word_fits (least_sum a b + unknown a + unknown b)) (unknown_fits a) (unknown_fits b)

-- at a bit that the sum knows, all sums have that bit
sum_known : (a b : KnownBits) (x y i : ℕ) → IsValid a → IsValid b → x < 2 ^ 64 → y < 2 ^ 64 → StandsFor a x
    → StandsFor b y → i < 64 →
    bit_at (add_mask a b) i ≡ 0 → bit_at (word (x + y)) i ≡ bit_at (least_sum a b) i
sum_known a b x y i ha hb hx hy s t k h =
    let m = open_mask (least_sum a b) (word (least_sum a b + unknown a + unknown b)) (unknown a) (unknown b) i h in
    sums_alike a b x y i ha hb hx hy s t k m.1 m.2 (m.0 ∙ ap (λ (n : ℕ). bit_at n i) (greatest_sum-is a b ha hb))

pub add_valid : (a b : KnownBits) → IsValid (bits_add a b)
add_valid a b = known_but-valid (least_sum a b) (add_mask a b) (word_fits (a.ones + b.ones)) (add_mask-fits a b)

pub add_sound : (a b : KnownBits) → IsValid a → IsValid b → IsSound (λ x y. word (x + y)) a b (bits_add a b)
add_sound a b ha hb = λ x y hx hy s t.
    known_but-stands (least_sum a b) (add_mask a b) (word_fits (a.ones + b.ones)) (add_mask-fits a b) (word (x + y))
    (λ i k h. sum_known a b x y i ha hb hx hy s t k h)

pub add_monotone : (a b : KnownBits) → IsValid a → IsValid b → IsMonotoneAt bits_add a b
add_monotone a b ha hb = λ a' b' ha' hb' below_a below_b.
    known_but-below (least_sum a b) (add_mask a b) (least_sum a' b') (add_mask a' b') (word_fits (a.ones + b.ones))
    (add_mask-fits a b)
    (word_fits (a'.ones + b'.ones)) (add_mask-fits a' b') (λ i k h.
    let m = open_mask (least_sum a' b') (word (least_sum a' b' + unknown a' + unknown b')) (unknown a') (unknown b') i
    h in
    let open_a = unknown_kept a a' i ha ha' below_a k m.1 in
    let open_b = unknown_kept b b' i hb hb' below_b k m.2 in
    let least = sum_known a' b' a.ones b.ones i ha' hb' ha.ones_fit hb.ones_fit
    (bits_grow a a' a.ones below_a (least_stands a ha)) (bits_grow b b' b.ones below_b (least_stands b hb)) k h in
    let most = sum_known a' b' (greatest a) (greatest b) i ha' hb' (greatest_fits a) (greatest_fits b)
    (bits_grow a a' (greatest a) below_a (greatest_stands a ha))
    (bits_grow b b' (greatest b) below_b (greatest_stands b hb)) k h in
    let most_is : bit_at (word (least_sum a b + unknown a + unknown b)) i ≡ bit_at (greatest_sum a b) i =
    ap (λ (n : ℕ). bit_at n i) (greatest_sum-is a b ha hb) in (
      closed_mask (least_sum a b) (word (least_sum a b + unknown a + unknown b)) (unknown a) (unknown b) i
          (least ∙ sym most ∙ sym most_is) open_a open_b,
      least,
    ))

-- x - y in 64 bits
abbrev difference : ℕ → ℕ → ℕ
difference x y = word (x + (2 ^ 64 - y))

-- the complement of a difference is a sum with the complement
flipped-difference : (x y : ℕ) → x < 2 ^ 64 → y < 2 ^ 64 → difference x y ≡ flipped (word (flipped x + y))
flipped-difference x y hx hy =
    elim (cases_lt x y) [
      | inl h ↦
          let d : difference x y ≡ x + (2 ^ 64 - y) = mod-eq_of_lt (omega arith) in
          let back : flipped x + y ≡ (y - x - 1) + 2 ^ 64 = omega arith in
          let small : y - x - 1 < 2 ^ 64 = omega arith in
          let sum : word (flipped x + y) ≡ y - x - 1 = ap word back ∙ add-mod_right (y - x - 1) (2 ^ 64)
          ∙ mod-eq_of_lt small in
          omega (arith, d, sum)
      | inr h ↦
          let back : x + (2 ^ 64 - y) ≡ (x - y) + 2 ^ 64 = omega arith in
          let small : x - y < 2 ^ 64 = omega arith in
          let d : difference x y ≡ x - y = ap word back ∙ add-mod_right (x - y) (2 ^ 64) ∙ mod-eq_of_lt small in
          let sum : word (flipped x + y) ≡ flipped x + y = mod-eq_of_lt (omega arith) in
          omega (arith, d, sum)
    ]

-- what is known of the complement
abbrev turned : KnownBits → KnownBits
turned b = record { zeros = b.ones; ones = b.zeros }

turned_valid : (b : KnownBits) → IsValid b → IsValid (turned b)
turned_valid b h = record { zeros_fit = h.ones_fit; ones_fit = h.zeros_fit; apart = and_comm b.ones b.zeros ∙ h.apart }

turned_stands : (b : KnownBits) (x : ℕ) → IsValid b → x < 2 ^ 64 → StandsFor b x → StandsFor (turned b) (flipped x)
turned_stands b x h hx s = λ i.
    elim (cases_lt i 64) [
      | inl k ↦ let f = bit_at-flipped x i hx k in (λ z. omega (arith, f, (s i).1 z), λ o. omega (arith, f, (s i).0 o))
      | inr k ↦ (
        λ z. absurd (omega (arith, z, bit_at_above b.ones 64 i h.ones_fit k)),
        λ o. absurd (omega (arith, o, bit_at_above b.zeros 64 i h.zeros_fit k)),
      )
    ]

unknown-turned : (b : KnownBits) → unknown (turned b) ≡ unknown b
unknown-turned b = ap flipped (or_comm b.ones b.zeros)

abbrev middle : KnownBits → KnownBits → ℕ
middle a b = difference a.ones b.ones

abbrev most : KnownBits → KnownBits → ℕ
most a b = word (middle a b + unknown a)

abbrev least : KnownBits → KnownBits → ℕ
least a b = word (middle a b + (2 ^ 64 - unknown b))

abbrev sub_mask : KnownBits → KnownBits → ℕ
sub_mask a b = bit_or (bit_or (bit_xor (most a b) (least a b)) (unknown a)) (unknown b)

-- the definition's ends are the differences of the words' ends
most-is : (a b : KnownBits) → IsValid a → IsValid b → most a b ≡ difference (greatest a) b.ones
most-is a b ha hb =
    let whole : a.ones + (2 ^ 64 - b.ones) + unknown a ≡ greatest a + (2 ^ 64 - b.ones) =
    omega (arith, ones-unknown a ha) in
    mod-add-mod (a.ones + (2 ^ 64 - b.ones)) (2 ^ 64) (unknown a) ∙ ap word whole

least-is : (a b : KnownBits) → IsValid a → IsValid b → least a b ≡ difference a.ones (greatest b)
least-is a b ha hb =
    let fits : b.ones < 2 ^ 64 = hb.ones_fit in
    let whole : a.ones + (2 ^ 64 - b.ones) + (2 ^ 64 - unknown b) ≡ a.ones + (2 ^ 64 - greatest b) + 2 ^ 64 =
    omega (arith, ones-unknown b hb, fits, unknown_fits b, greatest_fits b) in
    mod-add-mod (a.ones + (2 ^ 64 - b.ones)) (2 ^ 64) (2 ^ 64 - unknown b) ∙ ap word whole
    ∙ add-mod_right (a.ones + (2 ^ 64 - greatest b)) (2 ^ 64)

bit_at-difference : (x y i : ℕ) → x < 2 ^ 64 → y < 2 ^ 64 → i < 64
    → bit_at (difference x y) i ≡ 1 - bit_at (word (flipped x + y)) i
bit_at-difference x y i hx hy k =
    ap (λ (n : ℕ). bit_at n i) (flipped-difference x y hx hy)
    ∙ bit_at-flipped (word (flipped x + y)) i (word_fits (flipped x + y)) k

sub_mask-fits : (a b : KnownBits) → sub_mask a b < 2 ^ 64
sub_mask-fits a b =
    mask_below (most a b) (least a b) (unknown a) (unknown b) (word_fits (middle a b + unknown a))
    (word_fits (middle a b + (2 ^ 64 - unknown b)))
    (unknown_fits a) (unknown_fits b)

-- at a bit that the difference knows, all differences have one bit, and so the definition's
difference_known : (a b : KnownBits) (x y i : ℕ) → IsValid a → IsValid b → x < 2 ^ 64 → y < 2 ^ 64 → StandsFor a x
    → StandsFor b y → i < 64 →
    bit_at (sub_mask a b) i ≡ 0 → bit_at (difference x y) i ≡ bit_at (middle a b) i
difference_known a b x y i ha hb hx hy s t k h =
    let m = open_mask (most a b) (least a b) (unknown a) (unknown b) i h in
    let c = turned a in
    let hc = turned_valid a ha in
    let open_c : bit_at (unknown c) i ≡ 0 = ap (λ (n : ℕ). bit_at n i) (unknown-turned a) ∙ m.1 in
    let zeros_back : flipped (greatest a) ≡ a.zeros = omega (arith, ha.zeros_fit) in
    let upper : bit_at (most a b) i ≡ 1 - bit_at (least_sum c b) i =
    ap (λ (n : ℕ). bit_at n i) (most-is a b ha hb)
    ∙ bit_at-difference (greatest a) b.ones i (greatest_fits a) hb.ones_fit k
    ∙ ap (λ (n : ℕ). 1 - bit_at (word (n + b.ones)) i) zeros_back in
    let lower : bit_at (least a b) i ≡ 1 - bit_at (greatest_sum c b) i =
    ap (λ (n : ℕ). bit_at n i) (least-is a b ha hb)
    ∙ bit_at-difference a.ones (greatest b) i ha.ones_fit (greatest_fits b) k in
    let same : bit_at (least_sum c b) i ≡ bit_at (greatest_sum c b) i =
    omega (arith, m.0, upper, lower, bit_at-lt (least_sum c b) i, bit_at-lt (greatest_sum c b) i) in
    let here = sums_alike c b (flipped x) y i hc hb (omega arith) hy (turned_stands a x ha hx s) t k open_c m.2 same in
    let there = sums_alike c b (flipped a.ones) b.ones i hc hb (omega arith) hb.ones_fit
    (turned_stands a a.ones ha ha.ones_fit (least_stands a ha))
    (least_stands b hb) k open_c m.2 same in
    bit_at-difference x y i hx hy k ∙ ap (λ (n : ℕ). 1 - n) (here ∙ sym there)
    ∙ sym (bit_at-difference a.ones b.ones i ha.ones_fit hb.ones_fit k)

pub sub_valid : (a b : KnownBits) → IsValid (bits_sub a b)
sub_valid a b = known_but-valid (middle a b) (sub_mask a b) (word_fits (a.ones + (2 ^ 64 - b.ones))) (sub_mask-fits a b)

pub sub_sound : (a b : KnownBits) → IsValid a → IsValid b → IsSound (λ x y. word (x + (2 ^ 64 - y))) a b (bits_sub a b)
sub_sound a b ha hb = λ x y hx hy s t.
    known_but-stands (middle a b) (sub_mask a b) (word_fits (a.ones + (2 ^ 64 - b.ones))) (sub_mask-fits a b)
    (difference x y)
    (λ i k h. difference_known a b x y i ha hb hx hy s t k h)

pub sub_monotone : (a b : KnownBits) → IsValid a → IsValid b → IsMonotoneAt bits_sub a b
sub_monotone a b ha hb = λ a' b' ha' hb' below_a below_b.
    known_but-below (middle a b) (sub_mask a b) (middle a' b') (sub_mask a' b')
    (word_fits (a.ones + (2 ^ 64 - b.ones))) (sub_mask-fits a b)
    (word_fits (a'.ones + (2 ^ 64 - b'.ones))) (sub_mask-fits a' b') (λ i k h.
    let m = open_mask (most a' b') (least a' b') (unknown a') (unknown b') i h in
    let open_a = unknown_kept a a' i ha ha' below_a k m.1 in
    let open_b = unknown_kept b b' i hb hb' below_b k m.2 in
    let least_a = bits_grow a a' a.ones below_a (least_stands a ha) in
    let least_b = bits_grow b b' b.ones below_b (least_stands b hb) in
    let most_a = bits_grow a a' (greatest a) below_a (greatest_stands a ha) in
    let most_b = bits_grow b b' (greatest b) below_b (greatest_stands b hb) in
    let mid = difference_known a' b' a.ones b.ones i ha' hb' ha.ones_fit hb.ones_fit least_a least_b k h in
    let upper = ap (λ (n : ℕ). bit_at n i) (most-is a b ha hb)
    ∙ difference_known a' b' (greatest a) b.ones i ha' hb' (greatest_fits a) hb.ones_fit most_a least_b k h in
    let lower = ap (λ (n : ℕ). bit_at n i) (least-is a b ha hb)
    ∙ difference_known a' b' a.ones (greatest b) i ha' hb' ha.ones_fit (greatest_fits b) least_a most_b k h in
    (closed_mask (most a b) (least a b) (unknown a) (unknown b) i (upper ∙ sym lower) open_a open_b, mid))
