-- Laws of rules that are asked of the items of a list in their order, for loops over it: the rules of what is left of the
-- list are those of its first item and of the rest. An item at index i stands as get_or xs i d. Each law is one step of
-- the list (`at_drop_more`) and a case on what the first item's rules said.
use Rattle.std.proofs.Common.{◌≡◌, ℕ, suc, ◌+◌, ◌<◌, ◌≤◌, Bool, true, false, cond, List, [], ◌∷◌, length, get_or, drop, Result, Ok, Err, refl, sym, ap, ◌∙◌, arith}
use Rattle.std.proofs.lemmas.List.{at_drop_more, at_drop_all}
use Rattle.std.specs.Prelude.{filter}
use Rattle.kc_rules.specs.Rules.{◌>>=◌}
use Rattle.kc_cert.specs.FirstRefusal.{demand, each, each_from}

-- ---- an answer and what follows it

pub bind-ok : {E : Type 0} (r s : Result (Unit {0}) E) → r ≡ Ok tt → (r >>= λ ok. s) ≡ s
bind-ok (Ok u) s e = refl
bind-ok (Err d) s e = absurd cc

pub bind-err : {E : Type 0} (r s : Result (Unit {0}) E) (d : E) → r ≡ Err d → (r >>= λ ok. s) ≡ Err d
bind-err (Ok u) s d e = absurd cc
bind-err (Err c) s d e = e

pub demand-true : {E : Type 0} (b : Bool) (d : E) → b ≡ true → demand b d ≡ Ok tt
demand-true true d e = refl
demand-true false d e = absurd cc

pub demand-false : {E : Type 0} (b : Bool) (d : E) → b ≡ false → demand b d ≡ Err d
demand-false true d e = absurd cc
demand-false false d e = refl

-- ---- what was answered at the first of rules in a row

module _ {E : Type 0} (asked rest answer : Result (Unit {0}) E) (is : answer ≡ asked) where
  -- a refusal decides
  pub row-refused : (e : E) → answer ≡ Err e → Err e ≡ (asked >>= λ ok. rest)
  row-refused e refused =
      sym (ap (λ (r : Result (Unit {0}) E). r >>= λ ok. rest) (sym is) ∙ bind-err answer rest e refused)

  -- else what follows decides
  pub row-passed : (last : Result (Unit {0}) E) → answer ≡ Ok tt → last ≡ rest → last ≡ (asked >>= λ ok. rest)
  row-passed last passed so =
      so ∙ sym (ap (λ (r : Result (Unit {0}) E). r >>= λ ok. rest) (sym is) ∙ bind-ok answer rest passed)

-- ---- all items

each-first : {A E : Type 0} (ask : A → Result (Unit {0}) E) (x : A) (xs : List A)
    → each ask (x ∷ xs) ≡ (ask x >>= λ ok. each ask xs)
unfolding each
each-first ask x xs = refl

each-none : {A E : Type 0} (ask : A → Result (Unit {0}) E) → each ask [] ≡ Ok tt
unfolding each
each-none ask = refl

-- the item at index i, and what is left after it
pub each-next : {A E : Type 0} (ask : A → Result (Unit {0}) E) (xs : List A) (i : ℕ) (d : A) → i < length xs
    → each ask (drop i xs) ≡ (ask (get_or xs i d) >>= λ ok. each ask (drop (i + 1) xs))
each-next ask xs i d h = at_drop_more (each ask) xs i d h ∙ each-first ask (get_or xs i d) (drop (i + 1) xs)

-- nothing is left
pub each-end : {A E : Type 0} (ask : A → Result (Unit {0}) E) (xs : List A) (i : ℕ) → length xs ≤ i
    → each ask (drop i xs) ≡ Ok tt
each-end ask xs i h = at_drop_all (each ask) xs i h ∙ each-none ask

-- ---- the items that pass a test

-- an item that doesn't pass has no rules
pub each_filter-first : {A E : Type 0} (ask : A → Result (Unit {0}) E) (test : A → Bool) (x : A) (xs : List A)
    → each ask (filter test (x ∷ xs)) ≡ (cond (test x) (ask x) (Ok tt) >>= λ ok. each ask (filter test xs))
each_filter-first {A} {E} ask test x xs = go (test x)
  where
    go : (b : Bool) → each ask (cond b (x ∷ filter test xs) (filter test xs))
        ≡ (cond b (ask x) (Ok tt) >>= λ ok. each ask (filter test xs))
    go true = each-first ask x (filter test xs)
    go false = refl

pub each_filter-next : {A E : Type 0} (ask : A → Result (Unit {0}) E) (test : A → Bool) (xs : List A) (i : ℕ) (d : A)
    → i < length xs → each ask (filter test (drop i xs))
    ≡ (cond (test (get_or xs i d)) (ask (get_or xs i d)) (Ok tt) >>= λ ok. each ask (filter test (drop (i + 1) xs)))
each_filter-next ask test xs i d h =
    at_drop_more (λ ys. each ask (filter test ys)) xs i d h
    ∙ each_filter-first ask test (get_or xs i d) (drop (i + 1) xs)

each_filter-rest : {A E : Type 0} (ask : A → Result (Unit {0}) E) (test : A → Bool) (xs : List A) (i : ℕ) (d : A)
    (b : Bool) (r : Result (Unit {0}) E) → i < length xs → test (get_or xs i d) ≡ b
    → cond b (ask (get_or xs i d)) (Ok tt) ≡ r
    → each ask (filter test (drop i xs)) ≡ (r >>= λ ok. each ask (filter test (drop (i + 1) xs)))
each_filter-rest ask test xs i d b r h e f =
    each_filter-next ask test xs i d h
    ∙ ap (λ t. cond t (ask (get_or xs i d)) (Ok tt) >>= λ ok. each ask (filter test (drop (i + 1) xs))) e
    ∙ ap (λ t. t >>= λ ok. each ask (filter test (drop (i + 1) xs))) f

pub each_filter-skipped : {A E : Type 0} (ask : A → Result (Unit {0}) E) (test : A → Bool) (xs : List A) (i : ℕ) (d : A)
    → i < length xs → test (get_or xs i d) ≡ false
    → each ask (filter test (drop i xs)) ≡ each ask (filter test (drop (i + 1) xs))
each_filter-skipped ask test xs i d h e = each_filter-rest ask test xs i d false (Ok tt) h e refl

pub each_filter-passed : {A E : Type 0} (ask : A → Result (Unit {0}) E) (test : A → Bool) (xs : List A) (i : ℕ) (d : A)
    → i < length xs → test (get_or xs i d) ≡ true → ask (get_or xs i d) ≡ Ok tt
    → each ask (filter test (drop i xs)) ≡ each ask (filter test (drop (i + 1) xs))
each_filter-passed ask test xs i d h e f = each_filter-rest ask test xs i d true (Ok tt) h e f

pub each_filter-failed : {A E : Type 0} (ask : A → Result (Unit {0}) E) (test : A → Bool) (xs : List A) (i : ℕ) (d : A)
    (r : E) → i < length xs → test (get_or xs i d) ≡ true → ask (get_or xs i d) ≡ Err r
    → each ask (filter test (drop i xs)) ≡ Err r
each_filter-failed ask test xs i d r h e f = each_filter-rest ask test xs i d true (Err r) h e f

pub each_filter-end : {A E : Type 0} (ask : A → Result (Unit {0}) E) (test : A → Bool) (xs : List A) (i : ℕ)
    → length xs ≤ i → each ask (filter test (drop i xs)) ≡ Ok tt
each_filter-end ask test xs i h = at_drop_all (λ ys. each ask (filter test ys)) xs i h ∙ each-none ask

-- ---- items with their numbers

each_from-first : {A E : Type 0} (ask : ℕ → A → Result (Unit {0}) E) (k : ℕ) (x : A) (xs : List A)
    → each_from ask k (x ∷ xs) ≡ (ask k x >>= λ ok. each_from ask (suc k) xs)
unfolding each_from
each_from-first ask k x xs = refl

each_from-none : {A E : Type 0} (ask : ℕ → A → Result (Unit {0}) E) (k : ℕ) → each_from ask k [] ≡ Ok tt
unfolding each_from
each_from-none ask k = refl

pub each_from-next : {A E : Type 0} (ask : ℕ → A → Result (Unit {0}) E) (xs : List A) (i : ℕ) (d : A) → i < length xs
    → each_from ask i (drop i xs) ≡ (ask i (get_or xs i d) >>= λ ok. each_from ask (i + 1) (drop (i + 1) xs))
each_from-next ask xs i d h =
    let more : suc i ≡ i + 1 = omega arith in
    at_drop_more (each_from ask i) xs i d h ∙ each_from-first ask i (get_or xs i d) (drop (i + 1) xs)
    ∙ ap (λ k. ask i (get_or xs i d) >>= λ ok. each_from ask k (drop (i + 1) xs)) more

pub each_from-end : {A E : Type 0} (ask : ℕ → A → Result (Unit {0}) E) (xs : List A) (i : ℕ) → length xs ≤ i
    → each_from ask i (drop i xs) ≡ Ok tt
each_from-end ask xs i h = at_drop_all (each_from ask i) xs i h ∙ each_from-none ask i
