-- Lists as the judgement reads them. An element of a list is its first or one of the rest; a written word's bytes are
-- those from its address on; the accesses before the first in a guard are the front of the list up to there.
use Rattle.std.proofs.Common.{◌≡◌, ℕ, zero, suc, ◌+◌, ◌^◌, ◌<◌, ◌≤◌, Bool, true, false, not, cond, ltb, ◌||◌, List, [], ◌∷◌, ◌++◌, length, take, map, get_or, Option, Some, None, ◌⊎◌, inl, inr, arith, refl, ap, sym, ◌∙◌, subst}
use Rattle.std.specs.List.{Contains, Any, All, list_any, position, prefix_len, take_while}
use Rattle.std.proofs.lemmas.List.Sums.{prefix_len-le-length}
use Rattle.std.proofs.lemmas.Bool.{cases_lt, ltb-true, ltb-false, lt-ltb, le-ltb}
use Rattle.std.proofs.Math.Seq.{take-length}
use Rattle.kc_mem.specs.Memory.{next}
use Rattle.kc_exec.specs.Operand.{plus}
use Rattle.kc_events.specs.Attempt.{span_of, bytes_of_words}

-- ---- elements

cases-at : {A : Type 0} (x y : A) (xs : List A) (k : ℕ) → k < length (x ∷ xs) → get_or (x ∷ xs) k y ≡ y → (x ≡ y)
    ⊎ Contains xs y
cases-at x y xs zero lt e = inl e
cases-at x y xs (suc k) lt e = inr (k, omega (arith, lt), e)

pub contains-cases : {A : Type 0} (x y : A) (xs : List A) → Contains (x ∷ xs) y → (x ≡ y) ⊎ Contains xs y
contains-cases x y xs h = cases-at x y xs h.0 h.1 h.2

pub contains-first : {A : Type 0} (x : A) (xs : List A) → Contains (x ∷ xs) x
contains-first x xs = (0, omega arith, refl)

pub contains-later : {A : Type 0} (x y : A) (xs : List A) → Contains xs y → Contains (x ∷ xs) y
contains-later x y xs h = (suc h.0, omega (arith, h.1), h.2)

pub contains-none : {A : Type 0} (y : A) → Contains [] y → ⊥
contains-none y h = omega (arith, h.1)

-- some element has P
pub any-of : {A : Type 0} (P : A → Type 0) (xs : List A) (x : A) → Contains xs x → P x → Any P xs
any-of P xs x h p = (h.0, x, h.1, h.2, p)

pub of-any : {A : Type 0} (P : A → Type 0) (xs : List A) → Any P xs → (x : A) × Contains xs x × P x
of-any P xs h = (h.1, (h.0, h.2, h.3), h.4)

-- what holds of each number below i, and of i, holds of each number below i + 1
pub up-to : (P : ℕ → Type 0) (i : ℕ) → ((k : ℕ) → k < i → P k) → P i → (k : ℕ) → k < i + 1 → P k
up-to P i below at k lt = elim (cases_lt k i) [
  | inl less ↦ below k less
  | inr from ↦ let same : k ≡ i = omega (arith, lt, from) in subst P (sym same) at
]

-- ---- the bytes of words

-- byte i from address a on is byte i - 1 from the next address on
step-on : (a i : ℕ) → plus (next a) i ≡ plus a (suc i)
step-on a i = omega arith

same-place : (a : ℕ) → a < 2 ^ 64 → plus a 0 ≡ a
same-place a h = omega (arith, h)

pub span-has : (a n i : ℕ) → a < 2 ^ 64 → i < n → Contains (span_of a n) (plus a i)
span-has a zero i range lt = absurd (omega (arith, lt))
span-has a (suc n) zero range lt =
    subst (λ (x : ℕ). Contains (a ∷ span_of (next a) n) x) (sym (same-place a range))
    (contains-first a (span_of (next a) n))
span-has a (suc n) (suc i) range lt =
    let later = span-has (next a) n i (omega arith) (omega (arith, lt)) in
    contains-later a (plus a (suc i)) (span_of (next a) n) (subst (λ (x : ℕ). Contains (span_of (next a) n) x)
    (step-on a i) later)

-- an address of the span is one of the bytes
pub of-span : (a n x : ℕ) → a < 2 ^ 64 → Contains (span_of a n) x → (i : ℕ) × (i < n) × (plus a i ≡ x)
of-span a zero x range h = absurd (contains-none x h)
of-span a (suc n) x range h = elim (contains-cases a x (span_of (next a) n) h) [
  | inl e ↦ (0, omega arith, same-place a range ∙ e)
  | inr later ↦
      let there = of-span (next a) n x (omega arith) later in (
        suc there.0,
        omega (arith, there.1),
        sym (step-on a there.0) ∙ there.2,
      )
]

-- the word at an address has a byte with P; some word has
abbrev pub HasByte : (ℕ → Type 0) → ℕ → ℕ → Type 0
HasByte P a n = (i : ℕ) × (i < n) × P (plus a i)

pub words-cases : (w : ℕ × ℕ) (ws : List (ℕ × ℕ)) (P : ℕ × ℕ → Type 0) → All P (w ∷ ws) → P w × All P ws
words-cases w ws P all = (all 0 w (omega arith), λ k d lt. all (suc k) d (omega (arith, lt)))

pub join-left : {A : Type 0} (xs ys : List A) (x : A) → Contains xs x → Contains (xs ++ ys) x
join-left [] ys x h = absurd (contains-none x h)
join-left (y ∷ xs) ys x h = elim (contains-cases y x xs h) [
  | inl e ↦ subst (λ (z : _). Contains (y ∷ (xs ++ ys)) z) e (contains-first y (xs ++ ys))
  | inr later ↦ contains-later y x (xs ++ ys) (join-left xs ys x later)
]

pub join-right : {A : Type 0} (xs ys : List A) (x : A) → Contains ys x → Contains (xs ++ ys) x
join-right [] ys x h = h
join-right (y ∷ xs) ys x h = contains-later y x (xs ++ ys) (join-right xs ys x h)

parted : {A : Type 0} (xs ys : List A) (x : A) → Contains (xs ++ ys) x → Contains xs x ⊎ Contains ys x
parted [] ys x h = inr h
parted (y ∷ xs) ys x h = elim (contains-cases y x (xs ++ ys) h) [
  | inl e ↦ inl (subst (λ (z : _). Contains (y ∷ xs) z) e (contains-first y xs))
  | inr later ↦ elim (parted xs ys x later) [
    | inl left ↦ inl (contains-later y x xs left)
    | inr right ↦ inr right
  ]
]

-- a byte with P among those of the words, and a word with such a byte
pub words-to : (P : ℕ → Type 0) (ws : List (ℕ × ℕ)) (x : ℕ) → All (λ w. w.0 < 2 ^ 64) ws
    → Contains (bytes_of_words ws) x → P x
    → Any (λ w. HasByte P w.0 8) ws
words-to P [] x all h p = absurd (contains-none x h)
words-to P (w ∷ ws) x all h p =
    let parts = words-cases w ws (λ v. v.0 < 2 ^ 64) all in
    elim (parted (span_of w.0 8) (bytes_of_words ws) x h) [
      | inl here ↦
          let i = of-span w.0 8 x parts.0 here in
          any-of (λ (v : ℕ × ℕ). HasByte P v.0 8) (w ∷ ws) w (contains-first w ws) (i.0, i.1, subst P (sym i.2) p)
      | inr later ↦
          let there = of-any (λ (v : ℕ × ℕ). HasByte P v.0 8) ws (words-to P ws x parts.1 later p) in
          any-of (λ (v : ℕ × ℕ). HasByte P v.0 8) (w ∷ ws) there.0 (contains-later w there.0 ws there.1) there.2
    ]

pub words-from : (P : ℕ → Type 0) (ws : List (ℕ × ℕ)) (w : ℕ × ℕ) → All (λ w. w.0 < 2 ^ 64) ws → Contains ws w
    → HasByte P w.0 8
    → (x : ℕ) × Contains (bytes_of_words ws) x × P x
words-from P [] w all h p = absurd (contains-none w h)
words-from P (v ∷ ws) w all h p =
    let parts = words-cases v ws (λ u. u.0 < 2 ^ 64) all in
    elim (contains-cases v w ws h) [
      | inl e ↦
          let place : w.0 < 2 ^ 64 = subst (λ (u : ℕ × ℕ). u.0 < 2 ^ 64) e parts.0 in
          let byte = span-has w.0 8 p.0 place p.1 in
          let same = subst (λ (u : ℕ × ℕ). Contains (span_of u.0 8) (plus w.0 p.0)) (sym e) byte in
          (plus w.0 p.0, join-left (span_of v.0 8) (bytes_of_words ws) (plus w.0 p.0) same, p.2)
      | inr later ↦
          let there = words-from P ws w parts.1 later p in
          (there.0, join-right (span_of v.0 8) (bytes_of_words ws) there.0 there.1, there.2)
    ]

-- a written byte with P among the addresses, and a write of it
pub writes-to : (P : ℕ → Type 0) (ws : List (ℕ × ℕ)) (x : ℕ) → Contains (map (λ w. w.0) ws) x → P x
    → Any (λ w. P w.0) ws
writes-to P [] x h p = absurd (contains-none x h)
writes-to P (w ∷ ws) x h p = elim (contains-cases w.0 x (map (λ w. w.0) ws) h) [
  | inl e ↦ any-of (λ (v : ℕ × ℕ). P v.0) (w ∷ ws) w (contains-first w ws) (subst P (sym e) p)
  | inr later ↦
      let there = of-any (λ (v : ℕ × ℕ). P v.0) ws (writes-to P ws x later p) in
      any-of (λ (v : ℕ × ℕ). P v.0) (w ∷ ws) there.0 (contains-later w there.0 ws there.1) there.2
]

pub writes-from : (ws : List (ℕ × ℕ)) (w : ℕ × ℕ) → Contains ws w → Contains (map (λ w. w.0) ws) w.0
writes-from [] w h = absurd (contains-none w h)
writes-from (v ∷ ws) w h = elim (contains-cases v w ws h) [
  | inl e ↦ subst (λ (u : ℕ × ℕ). Contains (v.0 ∷ map (λ w. w.0) ws) u.0) e (contains-first v.0 (map (λ w. w.0) ws))
  | inr later ↦ contains-later v.0 w.0 (map (λ w. w.0) ws) (writes-from ws w later)
]

-- both lists of addresses together
pub besides-to : (P : ℕ → Type 0) (writes words : List (ℕ × ℕ)) (x : ℕ) → All (λ w. w.0 < 2 ^ 64) words
    → Contains (map (λ w. w.0) writes ++ bytes_of_words words) x → P x → Any (λ w. P w.0) writes
    ⊎ Any (λ w. HasByte P w.0 8) words
besides-to P writes words x all h p = elim (parted (map (λ w. w.0) writes) (bytes_of_words words) x h) [
  | inl byte ↦ inl (writes-to P writes x byte p)
  | inr word ↦ inr (words-to P words x all word p)
]

pub besides-from : (P : ℕ → Type 0) (writes words : List (ℕ × ℕ)) → All (λ w. w.0 < 2 ^ 64) words
    → Any (λ w. P w.0) writes ⊎ Any (λ w. HasByte P w.0 8) words → (x : ℕ)
    × Contains (map (λ w. w.0) writes ++ bytes_of_words words) x × P x
besides-from P writes words all (inl any) =
    let w = of-any (λ (v : ℕ × ℕ). P v.0) writes any in
    (w.0.0, join-left (map (λ w. w.0) writes) (bytes_of_words words) w.0.0 (writes-from writes w.0 w.1), w.2)
besides-from P writes words all (inr any) =
    let w = of-any (λ (v : ℕ × ℕ). HasByte P v.0 8) words any in
    let byte = words-from P words w.0 all w.1 w.2 in
    (byte.0, join-right (map (λ w. w.0) writes) (bytes_of_words words) byte.0 byte.1, byte.2)

-- ---- the front of a list

front-found : {A : Type 0} (b : Bool) (m n : ℕ) (xs : List A) → cond b (Some m) None ≡ Some n → m ≡ n
front-found true m n xs e = cc (e)
front-found false m n xs e = absurd (let k : ◌≡◌ {A = Option ℕ} None (Some n) = e in cc)

none-false : (b : Bool) (m : ℕ) → cond b (Some m) None ≡ None → b ≡ false
none-false true m e = absurd (let k : ◌≡◌ {A = Option ℕ} (Some m) None = e in cc)
none-false false m e = refl

-- the elements before the first that passes the test
pub before-found : {A : Type 0} (p : A → Bool) (xs : List A) (n : ℕ) → position p xs ≡ Some n
    → take n xs ≡ take_while (λ x. not (p x)) xs
before-found p xs n e =
    ap (λ (k : ℕ). take k xs) (sym (front-found (ltb (prefix_len (λ x. not (p x)) xs) (length xs))
    (prefix_len (λ x. not (p x)) xs) n xs e))

pub before-none : {A : Type 0} (p : A → Bool) (xs : List A) → position p xs ≡ None → xs ≡ take_while (λ x. not (p x)) xs
before-none p xs e =
    let k = prefix_len (λ x. not (p x)) xs in
    let all : length xs ≡ k =
    omega (
      arith,
      ltb-false k (length xs) (none-false (ltb k (length xs)) k e),
      prefix_len-le-length (λ x. not (p x)) xs,
    ) in
    sym (take-length xs) ∙ ap (λ (n : ℕ). take n xs) all

pub found-within : {A : Type 0} (p : A → Bool) (xs : List A) (n : ℕ) → position p xs ≡ Some n → n ≤ length xs
found-within p xs n e =
    let same = front-found (ltb (prefix_len (λ x. not (p x)) xs) (length xs)) (prefix_len (λ x. not (p x)) xs) n xs e in
    omega (arith, same, prefix_len-le-length (λ x. not (p x)) xs)

-- some element passes the test where the front is shorter than the list
some-step : (b c : Bool) (m n : ℕ) → c ≡ ltb m n → b || c ≡ ltb (cond (not b) (1 + m) 0) (suc n)
some-step true c m n e = sym (lt-ltb 0 (suc n) (omega arith))
some-step false true m n e = sym (lt-ltb (1 + m) (suc n) (omega (arith, ltb-true m n (sym e))))
some-step false false m n e = sym (le-ltb (1 + m) (suc n) (omega (arith, ltb-false m n (sym e))))

pub any-front : {A : Type 0} (p : A → Bool) (xs : List A) → list_any p xs ≡ ltb (prefix_len (λ x. not (p x)) xs)
    (length xs)
any-front p [] = refl
any-front p (x ∷ xs) = some-step (p x) (list_any p xs) (prefix_len (λ x. not (p x)) xs) (length xs) (any-front p xs)
