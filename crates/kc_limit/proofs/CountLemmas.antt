-- How many keys a map may have: a key's numbers are the digits of a number, a greater key has a greater one, and of
-- numbers below a bound no more rise than the bound says.
use Rattle.std.proofs.Common.{◌≡◌, ℕ, suc, ◌+◌, ◌*◌, ◌^◌, ◌<◌, ◌≤◌, T, List, [], ◌∷◌, All, length, mul-le-mul_right, mul_comm, pow-suc, suc-mul, sym, ap, ◌∙◌, subst, arith}
use Rattle.std.proofs.Math.Nat.{pow-zero}
use Rattle.std.proofs.lemmas.Bool.{false≢true}
use Rattle.std.proofs.lemmas.List.Elements.{All-head, All-tail}
use Rattle.std.specs.Cmp.{ranks}
use Rattle.std.specs.Cmp.Lexicographic.{slice_cmp}
use Rattle.std.specs.FinMap.{FinMap, entries, entries_sorted, len, len-entries}
use Rattle.std.specs.FinMap.Entries.{is_sorted, below_all}
use Rattle.std.specs.Ordering.{is_lt, nat_cmp, ordering_then, MatchOrdering}
use Rattle.std.specs.declared.cmp.Ordering.{Ordering}
use Rattle.std.specs.declared.cmp.Ordering.TheVariants.{Less, Equal, Greater}
use Rattle.kc_limit.proofs.EntryLemmas.{first, less, second}

module _ (base : ℕ) where
  -- the numbers as digits, the first one highest
  abbrev pub code : List ℕ → ℕ
  code [] = 0
  code (x ∷ xs) = x * base ^ length xs + code xs

  -- each number is a digit
  abbrev pub AreDigits : List ℕ → Type 0
  AreDigits xs = All (λ x. x < base) xs

  one-digit : (x p c : ℕ) → x < base → c < p → x * p + c < base * p
  one-digit x p c hx hc =
      let up : suc x * p ≤ base * p = mul-le-mul_right p hx in
      let split : suc x * p ≡ x * p + p = suc-mul x p in
      omega (arith, hc, up, split)

  pub code-bound : (xs : List ℕ) → AreDigits xs → code xs < base ^ length xs
  code-bound [] h = let one : base ^ 0 ≡ 1 = pow-zero base in omega (arith, one)
  code-bound (x ∷ xs) h =
      let rest = code-bound xs (All-tail (λ x. x < base) x xs h) in
      let more : base ^ suc (length xs) ≡ base * base ^ length xs = pow-suc base (length xs) ∙ mul_comm
      (base ^ length xs) base in
      subst (λ n. code (x ∷ xs) < n) (sym more)
      (one-digit x (base ^ length xs) (code xs) (All-head (λ x. x < base) x xs h) rest)

  first-digit : (x y p c e : ℕ) → x < y → c < p → x * p + c < y * p + e
  first-digit x y p c e hx hc =
      let up : suc x * p ≤ y * p = mul-le-mul_right p hx in
      let split : suc x * p ≡ x * p + p = suc-mul x p in
      omega (arith, hc, up, split)

  pub code-rises : (xs ys : List ℕ) → AreDigits xs → AreDigits ys → length xs ≡ length ys
      → slice_cmp nat_cmp xs ys ≡ Less
      → code xs < code ys
  code-rises [] [] hx hy e is = absurd (false≢true (ap is_lt is))
  code-rises [] (y ∷ ys) hx hy e is = absurd (omega (arith, e))
  code-rises (x ∷ xs) [] hx hy e is = absurd (omega (arith, e))
  code-rises (x ∷ xs) (y ∷ ys) hx hy e is =
      by (code-rises xs ys xs-digits ys-digits long) (nat_cmp x y) (ranks x y) is
    where
      long : length xs ≡ length ys
      long = omega (arith, e)

      xs-digits : AreDigits xs
      xs-digits = All-tail (λ x. x < base) x xs hx

      ys-digits : AreDigits ys
      ys-digits = All-tail (λ x. x < base) y ys hy

      by : (slice_cmp nat_cmp xs ys ≡ Less → code xs < code ys) → (r : Ordering)
          → MatchOrdering r (x < y) (x ≡ y) (y < x) → ordering_then r (slice_cmp nat_cmp xs ys) ≡ Less
          → code (x ∷ xs) < code (y ∷ ys)
      by later Less lt h =
          subst (λ n. code (x ∷ xs) < y * base ^ n + code ys) long
          (first-digit x y (base ^ length xs) (code xs) (code ys) lt (code-bound xs xs-digits))
      by later Equal same h =
          let rest = later h in
          subst (λ n. code (x ∷ xs) < n * base ^ length ys + code ys) same
          (subst (λ n. code (x ∷ xs) < x * base ^ n + code ys) long (omega (arith, rest)))
      by later Greater gt h = absurd (false≢true (ap is_lt h))

-- rising numbers below a bound
module _ {K X : Type 0} (R : K → K → Ordering) (P : K → Type 0) (number : K → ℕ) (most : ℕ)
    (below : (k : K) → P k → number k < most) (rises : (k l : K) → P k → P l → R k l ≡ Less → number k < number l) where
  few-from : (e : K × X) (es : List (K × X)) → All (λ e. P e.0) (e ∷ es) → T (is_sorted R (e ∷ es))
      → length (e ∷ es) + number e.0 ≤ most
  few-from e [] h sorted = let lt = below e.0 (All-head (λ e. P e.0) e [] h) in omega (arith, lt)
  few-from e (f ∷ fs) h sorted =
      let rest = All-tail (λ e. P e.0) e (f ∷ fs) h in
      let more = few-from f fs rest (second (below_all R e.0 (f ∷ fs)) (is_sorted R (f ∷ fs)) sorted) in
      let one = less (R e.0 f.0) (first (is_lt (R e.0 f.0)) (below_all R e.0 fs)
      (first (below_all R e.0 (f ∷ fs)) (is_sorted R (f ∷ fs)) sorted)) in
      let up = rises e.0 f.0 (All-head (λ e. P e.0) e (f ∷ fs) h) (All-head (λ e. P e.0) f fs rest) one in
      omega (arith, more, up)

  few : (es : List (K × X)) → All (λ e. P e.0) es → T (is_sorted R es) → length es ≤ most
  few [] h sorted = omega arith
  few (e ∷ es) h sorted = let from = few-from e es h sorted in omega (arith, from)

  pub few-keys : (m : FinMap R X) → All (λ e. P e.0) (entries m) → len m ≤ most
  few-keys m h = subst (λ n. n ≤ most) (sym (len-entries m)) (few (entries m) h (entries_sorted m))
