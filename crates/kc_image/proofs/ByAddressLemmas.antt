-- Segments by address. The claims: the segment with the greatest first address up to a says which one holds a and
-- whether a range that ends after a meets any. Plan: of two segments that begin up to a the one that begins first ends
-- before the other begins, since no address lies in both (`greatest_is`); so only the greatest can reach a. Then each
-- question is asked of it alone, and one segment more keeps the map (`IsByAddress-push`). omega compares the ends.
use Rattle.std.proofs.Common.{◌≡◌, ℕ, zero, suc, ◌-◌, ◌<◌, ◌≤◌, true, false, ltb, max, min, List, [], ◌∷◌, ◌++◌, length, get_or, Option, Some, None, refl, sym, ap, subst, ◌∙◌, inl, inr, arith, nat_cmp}
use Rattle.std.specs.Prelude.{Contains, IsSome}
use Rattle.std.specs.Bool.{then_some}
use Rattle.std.specs.Map.{lookup}
use Rattle.std.specs.Ordering.{is_gt}
use Rattle.std.specs.BTreeMap.{BTreeMap, get, Updates, is_at}
use Rattle.std.proofs.lemmas.Bool.{ltb-true, leb-true, lt-ltb, le-ltb, le-leb, cases_lt, and_parts, and_from, cases_Bool, both_ways}
use Rattle.std.proofs.lemmas.Cmp.{ranked, by_ranked}
use Rattle.std.proofs.lemmas.List.Folds.{list_any_none, list_any_at}
use Rattle.std.proofs.lemmas.List.Elements.{Contains-push_cases, Contains-append_left, Contains-push, Contains-get_or}
use Rattle.std.proofs.lemmas.Map.Lookups.{exact_unsigned}
use Rattle.std.proofs.lemmas.Map.Views.{tells_apart}
use Rattle.kc_rules.proofs.AnswerLemmas.{some_is}
use Rattle.kc_words.specs.Range.{Range}
use Rattle.kc_words.specs.Span.{Holds, Meets}
use Rattle.kc_image.specs.declared.segments.Place.{Place}
use Rattle.kc_image.specs.Image.{holds, meets, meets_any, place_of_address}
use Rattle.kc_image.specs.AddressSteps.{IsByAddress}

pub not_gt : (a b : ℕ) → a ≤ b → is_gt (nat_cmp a b) ≡ false
not_gt a b le =
    by_ranked (a < b) (a ≡ b) (b < a) (nat_cmp a b) (ranked a b (nat_cmp a b) refl)
    (λ e _. ap is_gt e) (λ e _. ap is_gt e) (λ e gt. absurd (omega arith))

-- ---- the tests

pub holds-from : (r : Range) (a : ℕ) → holds r a ≡ true → Holds r a
holds-from r a h = let p = and_parts _ _ h in (leb-true _ _ p.0, ltb-true _ _ p.1)

pub holds_true : (r : Range) (a : ℕ) → Holds r a → holds r a ≡ true
holds_true r a h = and_from _ _ (le-leb _ _ h.0) (lt-ltb _ _ h.1)

pub holds_false : (r : Range) (a : ℕ) → (Holds r a → ⊥) → holds r a ≡ false
holds_false r a absent =
    elim (cases_Bool (holds r a)) [ inl t ↦ absurd (absent (holds-from r a t)) | inr f ↦ f ]

pub meets_true : (r s : Range) (a : ℕ) → Holds r a → Holds s a → meets r s ≡ true
meets_true r s a h k = lt-ltb _ _ (omega (arith, h.0, h.1, k.0, k.1))

pub meets-from : (r s : Range) → meets r s ≡ true → Meets r s
meets-from r s h =
    let lt : max r.from s.from < min r.to s.to = ltb-true _ _ h in
    (max r.from s.from, (omega (arith, lt), omega (arith, lt)), (omega (arith, lt), omega (arith, lt)))

pub no_meet : (list : List Place) (v q : Place) (a : ℕ) → meets_any v.span list ≡ false → Contains list q
    → Holds v.span a → Holds q.span a → ⊥
no_meet list v q a none has h k =
    let at : meets v.span (get_or list has.0 q).span ≡ true =
    subst (λ (p : Place). meets v.span p.span ≡ true) (sym has.2) (meets_true v.span q.span a h k) in
    both_ways (meets_any v.span list) none (list_any_at (λ p. meets v.span p.span) list has.0 q has.1 at)

-- ---- the entry of the greatest first address up to a

-- what it says of the whole list
pub record IsGreatest (list : List Place) (a : ℕ) (v : Place) : Type 0 where
  pub member : Contains list v
  pub begins : v.span.from ≤ a
  pub filled : v.span.from < v.span.to
  pub greatest : (p : Place) → Contains list p → p.span.from < p.span.to → p.span.from ≤ a → p.span.to ≤ v.span.to

pub greatest_is : (list : List Place) (map : BTreeMap ℕ Place) (a k : ℕ) (v : Place) → IsByAddress list map → k ≤ a
    → get nat_cmp map k ≡ Some v
    → ((q : ℕ) → q ≤ a → IsSome (get nat_cmp map q) → q ≤ k) → IsGreatest list a v
greatest_is list map a k v by le e up =
    let l = by.listed k v e in
    record {
      member = l.0;
      begins = omega (arith, l.1);
      filled = omega (arith, l.1, l.2);
      greatest = λ p has full before.
          let g : get nat_cmp map p.span.from ≡ Some p = by.found p has full in
          let there : IsSome (get nat_cmp map p.span.from) = subst (λ (o : Option Place). IsSome o) (sym g) refl in
          let upto : p.span.from ≤ k = up p.span.from before there in
          elim (cases_lt p.span.from k) [
            | inl lt ↦ elim (cases_lt v.span.to p.span.to) [
              | inl past ↦
                  let same : p ≡ v = by.apart p v k has l.0 (upto, omega (arith, l.2)) (omega (arith, l.1), l.2) in
                  absurd (omega (arith, ap (λ (x : Place). x.span.from) same, l.1))
              | inr done ↦ done
            ]
            | inr ge ↦
                let here : p.span.from ≡ k = omega arith in
                let both : Some p ≡ Some v = sym g ∙ ap (λ (q : ℕ). get nat_cmp map q) here ∙ e in
                omega (arith, ap (λ (x : Place). x.span.to) (some_is p v both))
          ];
    }

-- a place that holds a is the one found
pub holder_is : (list : List Place) (map : BTreeMap ℕ Place) (a : ℕ) (v : Place) → IsByAddress list map
    → IsGreatest list a v → (p : Place) → Contains list p → Holds p.span a → p ≡ v
holder_is list map a v by g p has h =
    let past = g.greatest p has (omega (arith, h.0, h.1)) h.0 in
    by.apart p v a has g.member h (g.begins, omega (arith, h.1))

-- ---- whether a range meets one of the places

pub meets_any_empty : (list : List Place) (r : Range) → r.to ≤ r.from → false ≡ meets_any r list
meets_any_empty list r le = sym (list_any_none (λ p. meets r p.span) list (λ k d lt. le-ltb _ _ (omega arith)))

pub meets_any_before : (list : List Place) (map : BTreeMap ℕ Place) (r : Range) → IsByAddress list map → r.from < r.to
    → ((q : ℕ) → q ≤ r.to - 1 → get nat_cmp map q ≡ None) → false ≡ meets_any r list
meets_any_before list map r by full none =
    sym (list_any_none (λ p. meets r p.span) list (λ k d lt.
    let p : Place = get_or list k d in
    elim (cases_lt p.span.from p.span.to) [
      | inl filled ↦ elim (cases_lt p.span.from r.to) [
        | inl before ↦
            let here : Some p ≡ None =
            sym (by.found p (Contains-get_or list k d lt) filled) ∙ none p.span.from (omega arith) in
            absurd cc
        | inr past ↦ le-ltb _ _ (omega arith)
      ]
      | inr empty ↦ le-ltb _ _ (omega arith)
    ]))

pub meets_any_greatest : (list : List Place) (r : Range) (v : Place) → r.from < r.to → IsGreatest list (r.to - 1) v
    → ltb r.from v.span.to ≡ meets_any r list
meets_any_greatest list r v full g =
    elim (cases_lt r.from v.span.to) [
      | inl lt ↦
          let here : meets r v.span ≡ true = lt-ltb _ _ (omega (arith, g.begins, g.filled)) in
          let at : meets r (get_or list g.member.0 v).span ≡ true =
          subst (λ (p : Place). meets r p.span ≡ true) (sym g.member.2) here in
          lt-ltb _ _ lt ∙ sym (list_any_at (λ p. meets r p.span) list g.member.0 v g.member.1 at)
      | inr ge ↦
          le-ltb _ _ ge ∙ sym (list_any_none (λ p. meets r p.span) list (λ k d lt.
          let p : Place = get_or list k d in
          let has = Contains-get_or list k d lt in
          elim (cases_lt p.span.from p.span.to) [
            | inl filled ↦ elim (cases_lt p.span.from r.to) [
              | inl before ↦ le-ltb _ _ (omega (arith, g.greatest p has filled (omega arith)))
              | inr past ↦ le-ltb _ _ (omega arith)
            ]
            | inr empty ↦ le-ltb _ _ (omega arith)
          ]))
    ]

-- ---- the place that holds an address

Contains-tail : (x : Place) (xs : List Place) (p : Place) → Contains xs p → Contains (x ∷ xs) p
Contains-tail x xs p has = (suc has.0, omega (arith, has.1), has.2)

Contains-head : (x : Place) (xs : List Place) → Contains (x ∷ xs) x
Contains-head x xs = (0, omega arith, refl)

pub place_none : (list : List Place) (a : ℕ) → ((p : Place) → Contains list p → Holds p.span a → ⊥)
    → None ≡ place_of_address list a
place_none [] a absent = refl
place_none (x ∷ xs) a absent =
    rw (holds_false x.span a (absent x (Contains-head x xs)))
    (place_none xs a (λ p has. absent p (Contains-tail x xs p has)))

place_at : (list : List Place) (k : ℕ) (v : Place) (a : ℕ) → k < length list → get_or list k v ≡ v → Holds v.span a
    → ((p : Place) → Contains list p → Holds p.span a → p ≡ v) → Some v ≡ place_of_address list a
place_at [] k v a lt at h only = absurd (omega arith)
place_at (x ∷ xs) zero v a lt at h only =
    let here : holds x.span a ≡ true = subst (λ (p : Place). holds p.span a ≡ true) (sym at) (holds_true v.span a h) in
    rw here (ap Some (sym at))
place_at (x ∷ xs) (suc k) v a lt at h only =
    elim (cases_Bool (holds x.span a)) [
      | inl t ↦ rw t (ap Some (sym (only x (Contains-head x xs) (holds-from x.span a t))))
      | inr f ↦ rw f (place_at xs k v a (omega arith) at h (λ p has. only p (Contains-tail x xs p has)))
    ]

pub place_some : (list : List Place) (v : Place) (a : ℕ) → Contains list v → Holds v.span a
    → ((p : Place) → Contains list p → Holds p.span a → p ≡ v) → Some v ≡ place_of_address list a
place_some list v a has h only = place_at list has.0 v a has.1 has.2 h only

-- the answer of a search for a
pub place_found : (list : List Place) (map : BTreeMap ℕ Place) (a : ℕ) (v : Place) → IsByAddress list map
    → IsGreatest list a v
    → then_some (ltb a v.span.to) v ≡ place_of_address list a
place_found list map a v by g =
    elim (cases_lt a v.span.to) [
      | inl lt ↦ rw (lt-ltb a v.span.to lt) (place_some list v a g.member (g.begins, lt) (holder_is list map a v by g))
      | inr ge ↦
          rw (le-ltb a v.span.to ge)
          (place_none list a (λ p has h. omega (arith, h.0, h.1, g.greatest p has (omega (arith, h.0, h.1)) h.0)))
    ]

pub place_missing : (list : List Place) (map : BTreeMap ℕ Place) (a : ℕ) → IsByAddress list map
    → ((q : ℕ) → q ≤ a → get nat_cmp map q ≡ None) → None ≡ place_of_address list a
place_missing list map a by none =
    place_none list a (λ p has h.
    let here : Some p ≡ None = sym (by.found p has (omega (arith, h.0, h.1))) ∙ none p.span.from h.0 in
    absurd cc)

-- ---- one place more

holds_both : (list : List Place) (v : Place)
    → ((p q : Place) (a : ℕ) → Contains list p → Contains list q → Holds p.span a → Holds q.span a → p ≡ q)
    → ((q : Place) (a : ℕ) → Contains list q → Holds v.span a → Holds q.span a → ⊥)
    → (p q : Place) (a : ℕ) → Contains (list ++ v ∷ []) p → Contains (list ++ v ∷ []) q → Holds p.span a
    → Holds q.span a → p ≡ q
holds_both list v apart none p q a has_p has_q h k =
    elim (Contains-push_cases list v p has_p) [
      | inl old_p ↦ elim (Contains-push_cases list v q has_q) [
        | inl old_q ↦ apart p q a old_p old_q h k
        | inr is_q ↦ absurd (none p a old_p (subst (λ (x : Place). Holds x.span a) (sym is_q) k) h)
      ]
      | inr is_p ↦ elim (Contains-push_cases list v q has_q) [
        | inl old_q ↦ absurd (none q a old_q (subst (λ (x : Place). Holds x.span a) (sym is_p) h) k)
        | inr is_q ↦ sym is_p ∙ is_q
      ]
    ]

pub IsByAddress-none : (map : BTreeMap ℕ Place) → map.entries ≡ [] → IsByAddress [] map
IsByAddress-none map e = record {
  listed = λ k p f.
      let nothing : Some p ≡ None = sym f ∙ ap (λ (es : List (ℕ × Place)). lookup (is_at (nat_cmp k)) es) e in
      absurd cc;
  found = λ p has full. absurd (omega (arith, has.1));
  apart = λ p q a has_p has_q h k. absurd (omega (arith, has_p.1));
}

-- a place without an address
pub IsByAddress-empty : (list : List Place) (map : BTreeMap ℕ Place) (v : Place) → IsByAddress list map
    → v.span.to ≤ v.span.from → IsByAddress (list ++ v ∷ []) map
IsByAddress-empty list map v by empty = record {
  listed = λ k p e. let l = by.listed k p e in (Contains-append_left list (v ∷ []) p l.0, l.1, l.2);
  found = λ p has full.
      elim (Contains-push_cases list v p has) [
        | inl old ↦ by.found p old full
        | inr is ↦ absurd (omega (arith, ap (λ (x : Place). x.span.from) is, ap (λ (x : Place). x.span.to) is))
      ];
  apart = holds_both list v by.apart (λ q a has h k. omega (arith, h.0, h.1));
}

pub IsByAddress-push : (list : List Place) (map new : BTreeMap ℕ Place) (v : Place) → IsByAddress list map
    → meets_any v.span list ≡ false → v.span.from < v.span.to
    → Updates nat_cmp map new v.span.from (Some v) → IsByAddress (list ++ v ∷ []) new
IsByAddress-push list map new v by none filled updates = record {
  listed = λ k p e.
      elim (cases_Bool (is_at (nat_cmp v.span.from) k)) [
        | inl here ↦
            let at : v.span.from ≡ k = tells_apart exact_unsigned v.span.from k here in
            let is : Some v ≡ Some p = sym (updates.0 k ∙ rw here refl) ∙ e in
            subst (λ (x : Place). Contains (list ++ v ∷ []) x × (x.span.from ≡ k) × (k < x.span.to)) (some_is v p is)
            (Contains-push list v, at, omega arith)
        | inr other ↦
            let old : get nat_cmp map k ≡ Some p = sym (updates.2 k other) ∙ e in
            let l = by.listed k p old in
            (Contains-append_left list (v ∷ []) p l.0, l.1, l.2)
      ];
  found = λ p has full.
      elim (Contains-push_cases list v p has) [
        | inl old ↦ elim (cases_Bool (is_at (nat_cmp v.span.from) p.span.from)) [
          | inl here ↦
              let at : v.span.from ≡ p.span.from = tells_apart exact_unsigned v.span.from p.span.from here in
              absurd (no_meet list v p p.span.from none old (omega arith, omega arith) (omega arith, full))
          | inr other ↦ updates.2 p.span.from other ∙ by.found p old full
        ]
        | inr is ↦ subst (λ (x : Place). get nat_cmp new x.span.from ≡ Some x) is updates.1
      ];
  apart = holds_both list v by.apart (λ q a has h k. no_meet list v q a none has h k);
}
