-- The key of a context by its index, and the number of the context of a key: keys rise, so that those before the first
-- one that isn't less are less, and of those after it none is the key.
use Rattle.std.proofs.Common.{◌≡◌, ℕ, zero, suc, ◌<◌, ◌≤◌, ◌⊎◌, inl, inr, Bool, true, false, List, [], ◌∷◌, length, map, Some, None, refl, sym, ap, ◌∙◌, subst, arith}
use Rattle.std.proofs.lemmas.List.{length-map}
use Rattle.std.proofs.lemmas.Map.Lookups.{exact_bytes}
use Rattle.std.specs.Cmp.Lexicographic.{slice_cmp}
use Rattle.std.specs.Ordering.{is_eq, is_lt, nat_cmp}
use Rattle.std.specs.Prelude.{slice_index_or, position}
use Rattle.kc_state.specs.Key.{key_numbers}
use Rattle.kc_state.specs.declared.key.Key.{Key}
use Rattle.kc_cert.specs.Table.{IsFirstFrom, RisesBy, key_order}
use Rattle.kc_cert.specs.declared.certificate.Context.{Context}
use Rattle.kc_cert.proofs.HalvingLemmas.{three}
use Rattle.kc_cert.proofs.LookupLemmas.{lt-not-eq, position-found, position-absent}
use Rattle.kc_cert.proofs.PositionLemmas.{equal-is}

abbrev pub keys : List Context → List Key
keys contexts = map (λ c. c.key) contexts

nth-key : (contexts : List Context) (k : ℕ) (d : Key) (e : Context) → k < length contexts
    → slice_index_or (keys contexts) k d ≡ (slice_index_or contexts k e).key
nth-key [] k d e lt = absurd (omega (arith, lt))
nth-key (c ∷ cs) zero d e lt = refl
nth-key (c ∷ cs) (suc k) d e lt = nth-key cs k d e (omega (arith, lt))

before-isn't : (contexts : List Context) (key : Key) (at k : ℕ) (e : Context) → IsFirstFrom key_order (keys contexts) key at
    → k < at → k < length contexts → is_eq (key_order (slice_index_or contexts k e).key key) ≡ false
before-isn't contexts key at k e first lt fits = lt-not-eq (key_order (slice_index_or contexts k e).key key)
    (ap (λ (l : Key). is_lt (key_order l key)) (sym (nth-key contexts k key e fits)) ∙ first.before k key lt)

pub number-found : (contexts : List Context) (key : Key) (at : ℕ) → IsFirstFrom key_order (keys contexts) key at
    → at < length contexts → is_eq (key_order (slice_index_or (keys contexts) at key) key) ≡ true
    → Some at ≡ position (λ c. is_eq (key_order c.key key)) contexts
number-found [] key at first fits equal = absurd (omega (arith, fits))
number-found (c ∷ cs) key at first fits equal =
    position-found (λ x. is_eq (key_order x.key key)) (c ∷ cs) at c fits
    (λ k lt. before-isn't (c ∷ cs) key at k c first lt (omega (arith, lt, fits)))
    (ap (λ (l : Key). is_eq (key_order l key)) (sym (nth-key (c ∷ cs) at key c fits)) ∙ equal)

clash : (b : Bool) → b ≡ true → b ≡ false → ⊥
clash true t f = absurd cc
clash false t f = absurd cc

not-equal : (b : Bool) → (b ≡ true → ⊥) → b ≡ false
not-equal true h = absurd (h refl)
not-equal false h = refl

pub number-absent : (contexts : List Context) (key : Key) (at : ℕ) → RisesBy key_order (keys contexts)
    → IsFirstFrom key_order (keys contexts) key at
    → (at < length contexts → is_eq (key_order (slice_index_or (keys contexts) at key) key) ≡ false)
    → None ≡ position (λ c. is_eq (key_order c.key key)) contexts
number-absent [] key at rises first other = refl
number-absent (c ∷ cs) key at rises first other =
    position-absent (λ x. is_eq (key_order x.key key)) (c ∷ cs) c (λ k fits. go k fits (three k at))
  where
    nth : ℕ → Context
    nth k = slice_index_or (c ∷ cs) k c

    later : (k : ℕ) → k < length (c ∷ cs) → at < k → is_eq (key_order (nth k).key key) ≡ true → ⊥
    later k fits lt e =
        let same = exact_bytes (key_numbers (nth k).key) (key_numbers key) (equal-is (key_order (nth k).key key) e) in
        let long = length-map (c ∷ cs) (λ (x : Context). x.key) in
        let less = rises at k key lt (omega (arith, fits, long)) in
        let below : is_lt (key_order (slice_index_or (keys (c ∷ cs)) at key) key) ≡ true =
        ap (λ (l : List ℕ). is_lt (slice_cmp nat_cmp (key_numbers (slice_index_or (keys (c ∷ cs)) at key)) l))
        (sym same ∙ ap key_numbers (sym (nth-key (c ∷ cs) k key c fits)))
        ∙ ap is_lt less in
        clash _ below (first.after at key (omega arith) (omega (arith, lt, fits, long)))

    go : (k : ℕ) → k < length (c ∷ cs) → (k < at) ⊎ ((k ≡ at) ⊎ (at < k)) → is_eq (key_order (nth k).key key) ≡ false
    go k fits (inl less) = before-isn't (c ∷ cs) key at k c first less fits
    go k fits (inr (inl same)) =
        subst (λ (n : ℕ). is_eq (key_order (nth n).key key) ≡ false) (sym same)
        (ap (λ (l : Key). is_eq (key_order l key))
        (sym (nth-key (c ∷ cs) at key c (subst (λ (n : ℕ). n < length (c ∷ cs)) same fits)))
        ∙ other (subst (λ (n : ℕ). n < length (c ∷ cs)) same fits))
    go k fits (inr (inr more)) = not-equal _ (later k fits more)
