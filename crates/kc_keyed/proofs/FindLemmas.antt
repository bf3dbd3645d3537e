-- Look-ups in rows: in a list of keys, no two of which tie, beside a list of values, the first entry whose key ties
-- with that of a row is the row's. By induction on the rows.
use Rattle.std.proofs.Common.{◌≡◌, ℕ, zero, suc, inl, inr, true, false, cond, List, [], ◌∷◌, ◌++◌}
use Rattle.std.proofs.Common.{Some, None, length, set, slice_get, refl, sym, ap, ◌∙◌, arith}
use Rattle.std.proofs.lemmas.Bool.{false≢true}
use Rattle.std.specs.Cmp.{IsTotalOrder, tied_itself, Equal-is, eq_by_cmp_equiv}
use Rattle.std.specs.FinMap.Entries.{find}
use Rattle.std.specs.List.{zip, IsDistinct}
use Rattle.std.specs.Ordering.{is_eq, eq_by_cmp, ordering_reverse}
use Rattle.std.specs.declared.cmp.Ordering.{Ordering}
use Rattle.std.specs.declared.cmp.Ordering.TheVariants.{Equal}
use Rattle.kc_keyed.specs.Keyed.{NoTwoTie, TiesWithNone}
use Rattle.kc_keyed.proofs.AmongLemmas.{Among, among-at, among-last, at-all, not-None}
use Rattle.kc_keyed.proofs.AmongLemmas.{pushed, same-Some, shadowed, swapped}

module _ {K : Type 0} (R : K → K → Ordering) (o : IsTotalOrder R) where
  -- a tie holds both ways
  pub turned : (x y : K) → R x y ≡ Equal → R y x ≡ Equal
  turned x y e = o.antisymm y x ∙ ap ordering_reverse e

  -- among keys no two of which tie, those that tie are one
  pub told : (ks : List K) → NoTwoTie R ks → (x y : K) → Among ks x → Among ks y → R x y ≡ Equal → x ≡ y
  unfolding IsDistinct
  told [] h x y a b e = absurd a
  told (k ∷ ks) h x y (inl p) (inl q) e = p ∙ sym q
  told (k ∷ ks) h x y (inl p) (inr b) e =
      let no = at-all (λ z. eq_by_cmp R k z ≡ false) ks y h.0 b in
      absurd (false≢true (sym no ∙ (λ i. is_eq (R (sym p i) y)) ∙ ap is_eq e))
  told (k ∷ ks) h x y (inr a) (inl q) e =
      let no = at-all (λ z. eq_by_cmp R k z ≡ false) ks x h.0 a in
      absurd (false≢true (sym no ∙ (λ i. is_eq (R (sym q i) x)) ∙ ap is_eq (turned x y e)))
  told (k ∷ ks) h x y (inr a) (inr b) e = told ks h.1 x y a b e

  -- keys no two of which tie, and one that ties with none of them
  pub apart-push : (ks : List K) (k : K) → NoTwoTie R ks → TiesWithNone R k ks → NoTwoTie R (ks ++ k ∷ [])
  unfolding IsDistinct
  apart-push [] k h free = (tt, tt)
  apart-push (q ∷ ks) k h free = (
    pushed (λ z. eq_by_cmp R q z ≡ false) ks k h.0 ((eq_by_cmp_equiv o).symm q k ∙ free.0),
    apart-push ks k h.1 free.1,
  )

  -- and the other way: the last of such keys ties with none before it
  pub last-apart : (ks : List K) (k : K) → NoTwoTie R (ks ++ k ∷ []) → TiesWithNone R k ks
  unfolding IsDistinct
  last-apart [] k h = tt
  last-apart (q ∷ ks) k h = (
    (eq_by_cmp_equiv o).symm k q ∙ at-all (λ z. eq_by_cmp R q z ≡ false) (ks ++ k ∷ []) k h.0 (among-last ks k),
    last-apart ks k h.1,
  )

  -- the first of such keys ties with none after it
  pub apart-at : (k : K) (ks : List K) (n : ℕ) (q : K) → NoTwoTie R (k ∷ ks) → slice_get ks n ≡ Some q
      → eq_by_cmp R k q ≡ false
  unfolding IsDistinct
  apart-at k ks n q h e = at-all (λ z. eq_by_cmp R k z ≡ false) ks q h.0 (among-at ks n q e)

  pub apart-rest : (k : K) (ks : List K) → NoTwoTie R (k ∷ ks) → NoTwoTie R ks
  unfolding IsDistinct
  apart-rest k ks h = h.1

  module _ {X : Type 0} where
    -- nothing is found at a key that ties with none
    pub find-apart : (ks : List K) (vs : List X) (k : K) → TiesWithNone R k ks
        → find R k (zip ks vs) ≡ None
    find-apart [] vs k h = refl
    find-apart (q ∷ ks) [] k h = refl
    find-apart (q ∷ ks) (v ∷ vs) k h =
        ap (λ b. cond b (Some v) (find R k (zip ks vs))) h.0 ∙ find-apart ks vs k h.1

    -- the first entry that ties with the key of a row is the row's
    pub find-at : (ks : List K) (vs : List X) (n : ℕ) (q : K) → NoTwoTie R ks → length vs ≡ length ks
        → slice_get ks n ≡ Some q → find R q (zip ks vs) ≡ slice_get vs n
    find-at [] vs n q h l e = absurd (not-None q e)
    find-at (k ∷ ks) [] n q h l e = absurd (omega (arith, l))
    find-at (k ∷ ks) (v ∷ vs) zero q h l e =
        let is : k ≡ q = same-Some k q e in
        let same : is_eq (R q k) ≡ true = (λ i. is_eq (R (sym is i) k)) ∙ ap is_eq (tied_itself o k) in
        ap (λ b. cond b (Some v) (find R q (zip ks vs))) same
    find-at (k ∷ ks) (v ∷ vs) (suc n) q h l e =
        let no : eq_by_cmp R q k ≡ false = (eq_by_cmp_equiv o).symm q k ∙ apart-at k ks n q h e in
        ap (λ b. cond b (Some v) (find R q (zip ks vs))) no
        ∙ find-at ks vs n q (apart-rest k ks h) (omega (arith, l)) e

    -- where a row has another value, this is found at what ties with its key, and all else as before
    pub find-set : (ks : List K) (vs : List X) (n : ℕ) (q p : K) (v : X) → NoTwoTie R ks → length vs ≡ length ks
        → slice_get ks n ≡ Some q
        → find R p (zip ks (set vs n v)) ≡ cond (eq_by_cmp R p q) (Some v) (find R p (zip ks vs))
    find-set [] vs n q p v h l e = absurd (not-None q e)
    find-set (k ∷ ks) [] n q p v h l e = absurd (omega (arith, l))
    find-set (k ∷ ks) (w ∷ vs) zero q p v h l e =
        let is : k ≡ q = same-Some k q e in
        shadowed (eq_by_cmp R p k) (Some v) (Some w) (find R p (zip ks vs))
        ∙ (λ i. cond (eq_by_cmp R p (is i)) (Some v) (find R p ((k, w) ∷ zip ks vs)))
    find-set (k ∷ ks) (w ∷ vs) (suc n) q p v h l e =
        let rest = find-set ks vs n q p v (apart-rest k ks h) (omega (arith, l)) e in
        let apart : eq_by_cmp R p k ≡ true → eq_by_cmp R p q ≡ false =
        λ t. ap is_eq (o.congr p k q ((Equal-is (R p k)).0 t)) ∙ apart-at k ks n q h e in
        ap (λ r. cond (eq_by_cmp R p k) (Some w) r) rest
        ∙ swapped (eq_by_cmp R p k) (eq_by_cmp R p q) (Some w) (Some v) (find R p (zip ks vs)) apart
