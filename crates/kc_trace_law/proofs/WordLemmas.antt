-- Where a printed text is cut. The claim: the lines of the text of lines are their texts, and the words of a line are
-- those that were put together with blanks between them. Both by induction: a text without 0A before a 0A is the first
-- line (`cut_line`), and a word without blanks before a blank is the first word, which the library has.
use Rattle.std.proofs.Common.{◌≡◌, ◌∙◌, ap, refl, ℕ, suc, Bool, true, false, not, ◌&&◌, List, [], ◌∷◌, ◌++◌, length, arith, nat_le, nat_lt, is_some, ◌+◌, take, drop}
use Rattle.std.proofs.lemmas.Bool.Decides.{nat_tests}
use Rattle.std.proofs.lemmas.Grind.{common_steps}
use Rattle.std.proofs.lemmas.List.Splits.{slice_split_at, slice_split_none}
use Rattle.std.proofs.lemmas.List.Sums.{AllPass-from_list_all}
use Rattle.std.specs.List.{All, list_all, position, position_or_len, before_first, after_first}
use Rattle.kc_trace.specs.Words.{is_newline, is_blank, lines_of, words_of}
use Rattle.kc_trace.specs.Assignments.{is_equals}
use Rattle.kc_trace_law.proofs.NumberLemmas.{is_dark, lt_test}

-- ---- tests of each byte

and_first : (a b : Bool) → (a && b) ≡ true → a ≡ true
and_first true b h = refl
and_first false b h = h

and_second : (a b : Bool) → (a && b) ≡ true → b ≡ true
and_second true b h = h
and_second false b h = absurd (grind (arith, h))

pub first_of_all : (test : ℕ → Bool) (c : ℕ) (cs : List ℕ) → list_all test (c ∷ cs) ≡ true → test c ≡ true
first_of_all test c cs h = and_first (test c) (list_all test cs) h

pub rest_of_all : (test : ℕ → Bool) (c : ℕ) (cs : List ℕ) → list_all test (c ∷ cs) ≡ true → list_all test cs ≡ true
rest_of_all test c cs h = and_second (test c) (list_all test cs) h

-- no end of a line
abbrev pub is_bright : ℕ → Bool
is_bright c = nat_le 32 c

not_newline : (c : ℕ) → is_bright c ≡ true → is_newline c ≡ false
not_newline c h = grind (arith, nat_tests, h)

not_blank : (c : ℕ) → is_dark c ≡ true → is_blank c ≡ false
not_blank c h = grind (arith, nat_tests, h)

brighter : (c : ℕ) → is_dark c ≡ true → is_bright c ≡ true
brighter c h = grind (arith, nat_tests, h)

pub dark_is_bright : (cs : List ℕ) → list_all is_dark cs ≡ true → list_all is_bright cs ≡ true
dark_is_bright [] h = refl
dark_is_bright (c ∷ cs) h =
    let one : is_bright c ≡ true = brighter c (first_of_all is_dark c cs h) in
    let rest = dark_is_bright cs (rest_of_all is_dark c cs h) in
    rw (one, rest) refl

-- ---- lines

-- a text without 0A is the first line before a 0A
pub cut_line : (text rest : List ℕ) → list_all is_bright text ≡ true → lines_of (text ++ 10 ∷ rest)
    ≡ text ∷ lines_of rest
cut_line [] rest h = refl
cut_line (c ∷ cs) rest h =
    let here : is_newline c ≡ false = not_newline c (first_of_all is_bright c cs h) in
    let later = cut_line cs rest (rest_of_all is_bright c cs h) in
    rw (here, later) refl

-- ---- words

none_blank : (word : List ℕ) → list_all is_dark word ≡ true → All (λ c. is_blank c ≡ false) word
none_blank word h = λ k d lt. not_blank _ (AllPass-from_list_all is_dark word h k d lt)

pub cut_word : (word rest : List ℕ) → list_all is_dark word ≡ true → words_of (word ++ 32 ∷ rest)
    ≡ word ∷ words_of rest
cut_word word rest h = slice_split_at is_blank word 32 rest (none_blank word h) refl

pub last_word : (word : List ℕ) → list_all is_dark word ≡ true → words_of word ≡ word ∷ []
last_word word h = slice_split_none is_blank word (none_blank word h)

-- ---- assignments

abbrev pub is_named : ℕ → Bool
is_named c = not (is_equals c)

-- the first `=` comes after a name without one
equals_at : (name rest : List ℕ) → list_all is_named name ≡ true
    → position_or_len is_equals (name ++ 61 ∷ rest) ≡ length name
equals_at [] rest h = refl
equals_at (c ∷ cs) rest h =
    let here : not (is_equals c) ≡ true = first_of_all is_named c cs h in
    let later = equals_at cs rest (rest_of_all is_named c cs h) in
    rw (here, later) (omega arith)

front : (xs ys : List ℕ) → take (length xs) (xs ++ ys) ≡ xs
front [] ys = refl
front (x ∷ xs) ys = ap (λ zs. x ∷ zs) (front xs ys)

back : (xs : List ℕ) (y : ℕ) (ys : List ℕ) → drop (length xs + 1) (xs ++ y ∷ ys) ≡ ys
back [] y ys = refl
back (x ∷ xs) y ys =
    let next : suc (length xs) + 1 ≡ suc (length xs + 1) = omega arith in
    rw next (back xs y ys)

pub name_before : (name rest : List ℕ) → list_all is_named name ≡ true
    → before_first is_equals (name ++ 61 ∷ rest) ≡ name
name_before name rest h = ap (λ n. take n (name ++ 61 ∷ rest)) (equals_at name rest h) ∙ front name (61 ∷ rest)

pub number_after : (name rest : List ℕ) → list_all is_named name ≡ true
    → after_first is_equals (name ++ 61 ∷ rest) ≡ rest
number_after name rest h = ap (λ n. drop (n + 1) (name ++ 61 ∷ rest)) (equals_at name rest h) ∙ back name 61 rest

pub equals_found : (name rest : List ℕ) → list_all is_named name ≡ true
    → is_some (position is_equals (name ++ 61 ∷ rest)) ≡ true
equals_found name rest h =
    let at = equals_at name rest h in
    let within : nat_lt (position_or_len is_equals (name ++ 61 ∷ rest)) (length (name ++ 61 ∷ rest)) ≡ true = lt_test
    (position_or_len is_equals (name ++ 61 ∷ rest)) (length (name ++ 61 ∷ rest))
    (grind (arith, common_steps, at)) in
    rw within refl
