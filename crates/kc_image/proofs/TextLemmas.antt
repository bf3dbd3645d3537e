-- Texts that end before the first 0. The claims: a text's length is the place of the first 0, or all there is
-- (`text_before`, `text_whole`); its first 129 bytes tell whether a name is kept (`kept_by_window`); the first byte
-- that differs orders two texts (`differ_at`). Plan: by recursion over the bytes, by cases on each being 0; omega is
-- left to compare lengths.
use Rattle.std.proofs.Common.{◌≡◌, ℕ, zero, suc, ◌<◌, ◌≤◌, ◌-◌, true, false, eqb, leb, ltb, min, List, [], ◌∷◌, length, take, drop, position, Some, None, refl, sym, ap, inl, inr, arith, ◌∙◌, true≢false, nat_cmp, Ordering, Less, Equal, Greater, ne_eqb, eq-eqb, eqb-true, get_or, ◌+◌}
use Rattle.std.proofs.lemmas.Bool.{cases_Bool, cases_lt, ltb-false, le-leb, lt-leb, lt-ltb, le-ltb, and_from, and_left, and_right}
use Rattle.std.proofs.lemmas.List.{take_rest, drop_all, drop_more}
use Rattle.std.specs.Cmp.{nat_cmp_is}
use Rattle.std.specs.Cmp.Lexicographic.{slice_cmp}
use Rattle.std.specs.List.{position_or_len}
use Rattle.std.proofs.lemmas.List.Recursion.{is_position_or_len}
use Rattle.kc_image.specs.FirstFault.{text, is_kept_name}
use Rattle.kc_rules.proofs.AnswerLemmas.{some_is}

-- ---- where the text ends

pub text_le : (xs : List ℕ) → length (text xs) ≤ length xs
unfolding text
text_le [] = omega arith
text_le (x ∷ xs) = elim (cases_Bool (eqb x 0)) [ inl t ↦ rw t (omega arith) | inr f ↦ rw f (omega (arith, text_le xs)) ]

text_place : (xs : List ℕ) → length (text xs) ≡ position_or_len (λ b. eqb b 0) xs
unfolding text
text_place xs =
    is_position_or_len (λ ys. length (text ys)) (λ b. eqb b 0) refl
    (λ y ys. elim (cases_Bool (eqb y 0)) [ inl t ↦ rw t refl | inr f ↦ rw f (omega arith) ]) xs

pub text_before : (xs : List ℕ) (i : ℕ) → position (λ b. eqb b 0) xs ≡ Some i → i ≡ length (text xs)
text_before xs i e =
    elim (cases_Bool (ltb (position_or_len (λ b. eqb b 0) xs) (length xs))) [
      | inl t ↦ omega (arith, some_is _ _ (rw t at e), text_place xs)
      | inr f ↦ let nothing : None ≡ Some i = rw f at e in absurd cc
    ]

pub text_whole : (xs : List ℕ) → position (λ b. eqb b 0) xs ≡ None → length xs ≡ length (text xs)
text_whole xs e =
    elim (cases_Bool (ltb (position_or_len (λ b. eqb b 0) xs) (length xs))) [
      | inl t ↦ let something : Some (position_or_len (λ b. eqb b 0) xs) ≡ None = rw t at e in absurd cc
      | inr f ↦ omega (arith, ltb-false _ _ f, text_place xs, text_le xs)
    ]

-- ---- fronts

pub text_take : (n : ℕ) (xs : List ℕ) → length (text (take n xs)) ≡ min n (length (text xs))
unfolding text
text_take zero xs = omega arith
text_take (suc n) [] = omega arith
text_take (suc n) (x ∷ xs) = elim (cases_Bool (eqb x 0)) [
  | inl t ↦ rw t (omega arith)
  | inr f ↦ rw f (omega (arith, text_take n xs))
]

pub text_front : (xs : List ℕ) → take (length (text xs)) xs ≡ text xs
unfolding text
text_front [] = refl
text_front (x ∷ xs) = elim (cases_Bool (eqb x 0)) [
  | inl t ↦ rw t refl
  | inr f ↦ rw f (ap (λ (ys : List ℕ). x ∷ ys) (text_front xs))
]

-- ---- the order of two texts

other_byte : (x y : ℕ) (xs ys : List ℕ) → (x ≡ y → ⊥) → slice_cmp nat_cmp (text (x ∷ xs)) (text (y ∷ ys)) ≡ nat_cmp x y
unfolding text
other_byte x y xs ys differ = elim (cases_Bool (eqb x 0)) [
  | inl t ↦ elim (cases_Bool (eqb y 0)) [
    | inl u ↦ absurd (differ (eqb-true x 0 t ∙ sym (eqb-true y 0 u)))
    | inr g ↦ rw (t, g) (nat_cmp_is x y Less (omega (arith, eqb-true x 0 t, differ)))
  ]
  | inr f ↦ elim (cases_Bool (eqb y 0)) [
    | inl u ↦ rw (f, u) (nat_cmp_is x y Greater (omega (arith, eqb-true y 0 u, differ)))
    | inr g ↦ elim (cases_lt x y) [
      | inl lt ↦ rw (f, g, ← nat_cmp_is x y Less lt) refl
      | inr ge ↦ rw (f, g, ← nat_cmp_is x y Greater (omega (arith, ge, differ))) refl
    ]
  ]
]

same_byte : (x : ℕ) (xs ys : List ℕ) → (x ≡ 0 → ⊥)
    → slice_cmp nat_cmp (text (x ∷ xs)) (text (x ∷ ys)) ≡ slice_cmp nat_cmp (text xs) (text ys)
unfolding text
same_byte x xs ys some = rw (ne_eqb x 0 some, ← nat_cmp_is x x Equal refl) refl

both_end : (x : ℕ) (xs ys : List ℕ) → x ≡ 0 → slice_cmp nat_cmp (text (x ∷ xs)) (text (x ∷ ys)) ≡ Equal
unfolding text
both_end x xs ys none = rw (eq-eqb x 0 none) refl

-- the order of what is left of two lists of bytes from index i on
abbrev pub rest_order : List ℕ → List ℕ → ℕ → Ordering
rest_order xs ys i = slice_cmp nat_cmp (text (drop i xs)) (text (drop i ys))

module _ (xs ys : List ℕ) (i : ℕ) (in_xs : i < length xs) (in_ys : i < length ys) where
  rests : rest_order xs ys i
      ≡ slice_cmp nat_cmp (text (get_or xs i 0 ∷ drop (i + 1) xs)) (text (get_or ys i 0 ∷ drop (i + 1) ys))
  rests = rw (drop_more xs i 0 in_xs, drop_more ys i 0 in_ys) refl

  pub differ_at : (get_or xs i 0 ≡ get_or ys i 0 → ⊥) → rest_order xs ys i ≡ nat_cmp (get_or xs i 0) (get_or ys i 0)
  differ_at other = rests ∙ other_byte (get_or xs i 0) (get_or ys i 0) (drop (i + 1) xs) (drop (i + 1) ys) other

  pub end_at : get_or xs i 0 ≡ get_or ys i 0 → get_or xs i 0 ≡ 0 → rest_order xs ys i ≡ Equal
  end_at same none =
      rests
      ∙ ap (λ (y : ℕ). slice_cmp nat_cmp (text (get_or xs i 0 ∷ drop (i + 1) xs)) (text (y ∷ drop (i + 1) ys)))
      (sym same)
      ∙ both_end (get_or xs i 0) (drop (i + 1) xs) (drop (i + 1) ys) none

  pub same_at : get_or xs i 0 ≡ get_or ys i 0 → (get_or xs i 0 ≡ 0 → ⊥) → rest_order xs ys i ≡ rest_order xs ys (i + 1)
  same_at same some =
      rests
      ∙ ap (λ (y : ℕ). slice_cmp nat_cmp (text (get_or xs i 0 ∷ drop (i + 1) xs)) (text (y ∷ drop (i + 1) ys)))
      (sym same)
      ∙ same_byte (get_or xs i 0) (drop (i + 1) xs) (drop (i + 1) ys) some

-- ---- kept names

pub not_kept_empty : (name : List ℕ) → length name ≡ 0 → is_kept_name name ≡ false
not_kept_empty name e = and_left _ _ (le-ltb 0 (length name) (omega arith))

not_kept_long : (name : List ℕ) → 128 < length name → is_kept_name name ≡ false
not_kept_long name e = and_right _ _ (lt-leb _ _ e)

kept : (name : List ℕ) → 0 < length name → length name ≤ 128 → is_kept_name name ≡ true
kept name some short = and_from _ _ (lt-ltb _ _ some) (le-leb _ _ short)

pub kept_by_window : (name : List ℕ) (n : ℕ) → n ≡ min 129 (length name) → 0 < n → leb n 128 ≡ is_kept_name name
kept_by_window name n is some = elim (cases_lt 128 (length name)) [
  | inl long ↦ lt-leb _ _ (omega (arith, is, long)) ∙ sym (not_kept_long name long)
  | inr short ↦ le-leb _ _ (omega (arith, is, short)) ∙ sym (kept name (omega (arith, is, some)) short)
]

-- what the first bytes tell of the whole text
pub window : (strings : List ℕ) (at m n : ℕ) → m ≡ min (length (take (length strings - at) (drop at strings))) 129
    → n ≡ length (text (take m (take (length strings - at) (drop at strings))))
    → n ≡ min 129 (length (text (drop at strings)))
window strings at m n is e =
    omega (
      arith,
      text_take m (take (length strings - at) (drop at strings)),
      ap (λ (xs : List ℕ). length (text xs)) (take_rest strings at),
      text_le (drop at strings),
      ap (λ (xs : List ℕ). length xs) (take_rest strings at),
    )

-- no name begins at the end
pub no_text : (strings : List ℕ) (at : ℕ) → length strings ≤ at → text (drop at strings) ≡ []
unfolding text
no_text strings at past = ap text (drop_all at strings past)

pub kept_within : (strings : List ℕ) (at : ℕ) → is_kept_name (text (drop at strings)) ≡ true → at < length strings
kept_within strings at is = elim (cases_lt at (length strings)) [
  | inl lt ↦ lt
  | inr past ↦
      let none = not_kept_empty (text (drop at strings)) (ap length (no_text strings at past)) in
      absurd (true≢false (sym is ∙ none))
]

-- an offset past the end is as the end
pub drop_capped : (xs : List ℕ) (at m : ℕ) → m ≡ min at (length xs) → drop m xs ≡ drop at xs
drop_capped xs at m is = elim (cases_lt at (length xs)) [
  | inl lt ↦ let same : m ≡ at = omega (arith, is, lt) in ap (λ (n : ℕ). drop n xs) same
  | inr past ↦ drop_all m xs (omega (arith, is, past)) ∙ sym (drop_all at xs past)
]
