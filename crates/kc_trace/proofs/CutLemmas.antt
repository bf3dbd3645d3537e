-- Where a text is cut. A byte's first position, where `position` gives it, is the end of the part before it; where
-- there is none, that part is the whole text. The lines of a text that isn't empty are the part before the first 0A and
-- the lines of what follows it: by recursion on the text, where the first byte is a 0A or goes before what the rest
-- gives.
use Rattle.std.proofs.Common.{◌≡◌, ℕ, suc, not, ◌+◌, ◌-◌, ◌<◌, ◌≤◌, Bool, true, false, cond, List, [], ◌∷◌, length, take, drop, Some, None, refl, ap, sym, ◌∙◌, arith, nat_lt}
use Rattle.std.proofs.lemmas.Bool.Decides.{nat_tests}
use Rattle.std.proofs.lemmas.Grind.{common_steps}
use Rattle.std.proofs.lemmas.List.{take_all, drop_all}
use Rattle.std.proofs.lemmas.Option.{cond_some}
use Rattle.std.specs.List.{position, position_or_len, before_first, after_first, onto_first}
use Rattle.kc_trace.specs.Words.{is_newline, lines_of}

-- what a slice from the n-th element on is
pub rest_of : {A : Type 0} (n : ℕ) (xs : List A) → take (length xs - n) (drop n xs) ≡ drop n xs
rest_of n xs = grind (arith, common_steps)

pub found_at : {A : Type 0} (p : A → Bool) (xs : List A) (i : ℕ) → position p xs ≡ Some i → i ≡ position_or_len p xs
found_at p xs i h = sym (cond_some (nat_lt (position_or_len p xs) (length xs)) (position_or_len p xs) i h).1

none_case : (b : Bool) (n : ℕ) → cond b (Some n) None ≡ None → b ≡ false
none_case false n h = refl
none_case true n h = grind arith

pub found_nowhere : {A : Type 0} (p : A → Bool) (xs : List A) → position p xs ≡ None → length xs ≤ position_or_len p xs
found_nowhere p xs h =
    let past = none_case (nat_lt (position_or_len p xs) (length xs)) (position_or_len p xs) h in
    grind (arith, nat_tests, past)

pub before_found : {A : Type 0} (p : A → Bool) (xs : List A) (i : ℕ) → position p xs ≡ Some i
    → take i xs ≡ before_first p xs
before_found p xs i h = ap (λ n. take n xs) (found_at p xs i h)

pub after_found : {A : Type 0} (p : A → Bool) (xs : List A) (i : ℕ) → position p xs ≡ Some i
    → take (length xs - (i + 1)) (drop (i + 1) xs) ≡ after_first p xs
after_found p xs i h = rest_of (i + 1) xs ∙ ap (λ n. drop (n + 1) xs) (found_at p xs i h)

pub before_none : {A : Type 0} (p : A → Bool) (xs : List A) → position p xs ≡ None → before_first p xs ≡ xs
before_none p xs h = take_all (position_or_len p xs) xs (found_nowhere p xs h)

pub after_none : {A : Type 0} (p : A → Bool) (xs : List A) → position p xs ≡ None → after_first p xs ≡ []
after_none p xs h = let past = found_nowhere p xs h in drop_all (position_or_len p xs + 1) xs (omega (arith, past))

-- ---- lines

-- one byte goes before a text whose lines are known
onto : (b n : ℕ) (bs : List ℕ) (lines : List (List ℕ)) → lines ≡ take n bs ∷ lines_of (drop (n + 1) bs)
    → onto_first b lines ≡ take (1 + n) (b ∷ bs) ∷ lines_of (drop (1 + n + 1) (b ∷ bs))
onto b n bs lines h =
    let one : 1 + n ≡ suc n = omega arith in
    let two : suc n + 1 ≡ suc (n + 1) = omega arith in
    rw (one, two, h) refl

lines_step : (t : Bool) (b : ℕ) (bs : List ℕ) → is_newline b ≡ t
    → (0 < length bs → lines_of bs ≡ before_first is_newline bs ∷ lines_of (after_first is_newline bs))
    → lines_of (b ∷ bs) ≡ take (cond (not t) (1 + position_or_len is_newline bs) 0) (b ∷ bs)
    ∷ lines_of (drop (cond (not t) (1 + position_or_len is_newline bs) 0 + 1) (b ∷ bs))
lines_step true b bs h rest = rw h refl
lines_step false b [] h rest = rw h refl
lines_step false b (c ∷ cs) h rest =
    rw h (onto b (position_or_len is_newline (c ∷ cs)) (c ∷ cs) (lines_of (c ∷ cs)) (rest (omega arith)))

pub lines_first : (text : List ℕ) → 0 < length text → lines_of text ≡ before_first is_newline text
    ∷ lines_of (after_first is_newline text)
lines_first [] h = absurd (omega (arith, h))
lines_first (b ∷ bs) h = lines_step (is_newline b) b bs refl (lines_first bs)

pub lines_found : (text : List ℕ) (i : ℕ) → 0 < length text → position is_newline text ≡ Some i
    → lines_of text ≡ take i text ∷ lines_of (take (length text - (i + 1)) (drop (i + 1) text))
lines_found text i some h =
    lines_first text some
    ∙ ap (λ l. l ∷ lines_of (after_first is_newline text)) (sym (before_found is_newline text i h))
    ∙ ap (λ r. take i text ∷ lines_of r) (sym (after_found is_newline text i h))

pub lines_last : (text : List ℕ) → 0 < length text → position is_newline text ≡ None → lines_of text ≡ text ∷ []
lines_last text some h =
    lines_first text some
    ∙ ap (λ l. l ∷ lines_of (after_first is_newline text)) (before_none is_newline text h)
    ∙ ap (λ r. text ∷ lines_of r) (after_none is_newline text h)

-- a text has at most as many lines as bytes
onto_few : (b n : ℕ) (lines : List (List ℕ)) → length lines ≤ n → length (onto_first b lines) ≤ suc n
onto_few b n [] h = omega arith
onto_few b n (line ∷ lines) h = omega (arith, h)

step_few : (t : Bool) (b : ℕ) (bs : List ℕ) → is_newline b ≡ t → length (lines_of bs) ≤ length bs
    → length (lines_of (b ∷ bs)) ≤ suc (length bs)
step_few true b bs h few = rw h (omega (arith, few))
step_few false b bs h few = rw h (onto_few b (length bs) (lines_of bs) few)

pub few_lines : (text : List ℕ) → length (lines_of text) ≤ length text
few_lines [] = omega arith
few_lines (b ∷ bs) = step_few (is_newline b) b bs refl (few_lines bs)
