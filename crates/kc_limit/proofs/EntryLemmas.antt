-- Lists of entries in the order of their keys: two lists in which look-ups give the same are equal, where keys that
-- tie are equal at least among theirs; the keys after a put; and the sum over the values after a put.
use Rattle.std.proofs.Common.{◌≡◌, ◌≢◌, ℕ, ◌+◌, Bool, true, false, cond, ◌&&◌, T, List, [], ◌∷◌, Some, None, All, sum_by, unwrap_or, option_map, is_some, refl, sym, ap, ◌∙◌, subst, arith}
use Rattle.std.proofs.lemmas.List.Elements.{All-nil, All-cons, All-head, All-tail}
use Rattle.std.proofs.lemmas.List.Sums.{sum_by-cons}
use Rattle.std.specs.Cmp.{IsTotalOrder, tied_itself}
use Rattle.std.specs.FinMap.Entries.{find, put, is_sorted, below_all, by_order}
use Rattle.std.specs.Ordering.{is_eq, is_lt, eq_by_cmp, ordering_reverse}
use Rattle.std.specs.declared.cmp.Ordering.{Ordering}
use Rattle.std.specs.declared.cmp.Ordering.TheVariants.{Less, Equal, Greater}

pub first : (a b : Bool) → T (a && b) → T a
first true b p = tt
first false b p = p

pub second : (a b : Bool) → T (a && b) → T b
second true b p = p
second false b p = absurd p

pub less : (r : Ordering) → T (is_lt r) → r ≡ Less
less Less p = refl
less Equal p = absurd p
less Greater p = absurd p

equal : (r : Ordering) → T (is_eq r) → r ≡ Equal
equal Less p = absurd p
equal Equal p = refl
equal Greater p = absurd p

both : (a b : Bool) → T a → T b → T (a && b)
both true b p q = q
both false b p q = p

same-Some : {A : Type 0} (x y : A) → Some x ≡ Some y → x ≡ y
same-Some x y e = ap (λ o. unwrap_or o x) e

not-None : {A : Type 0} (x : A) → Some x ≢ None
not-None x e = subst T (ap is_some e) tt

module _ {K X : Type 0} (R : K → K → Ordering) (o : IsTotalOrder R) where
  below-less : (x y : K) (es : List (K × X)) → R x y ≡ Less → T (below_all R y es) → T (below_all R x es)
  below-less x y [] p h = tt
  below-less x y (e ∷ es) p h =
      both _ _ (subst (λ r. T (is_lt r)) (sym (o.trans x y e.0 p (less _ (first _ _ h)))) tt)
      (below-less x y es p (second _ _ h))

  below-tied : (x y : K) (es : List (K × X)) → R x y ≡ Equal → T (below_all R y es) → T (below_all R x es)
  below-tied x y [] p h = tt
  below-tied x y (e ∷ es) p h =
      both _ _ (subst (λ r. T (is_lt r)) (sym (o.congr x y e.0 p)) (first _ _ h)) (below-tied x y es p (second _ _ h))

  find-below : (q : K) (es : List (K × X)) → T (below_all R q es) → find R q es ≡ None
  find-below q [] h = refl
  find-below q (e ∷ es) h =
      ap (λ r. cond (is_eq r) (Some e.1) (find R q es)) (less _ (first _ _ h)) ∙ find-below q es (second _ _ h)

  find-first : (e : K × X) (es : List (K × X)) → find R e.0 (e ∷ es) ≡ Some e.1
  find-first e es = ap (λ r. cond (is_eq r) (Some e.1) (find R e.0 es)) (tied_itself o e.0)

  -- a key below each key of a list isn't found in it
  missed : (e f : K × X) (es fs : List (K × X)) → R e.0 f.0 ≡ Less → T (below_all R f.0 fs)
      → find R e.0 (e ∷ es) ≢ find R e.0 (f ∷ fs)
  missed e f es fs p h is =
      let below = both _ _ (subst (λ r. T (is_lt r)) (sym p) tt) (below-less _ _ fs p h) in
      not-None e.1 (sym (find-first e es) ∙ is ∙ find-below e.0 (f ∷ fs) below)

  tails : (k q : K) (v w : X) (es fs : List (K × X)) → T (below_all R k es) → T (below_all R k fs)
      → find R q ((k, v) ∷ es) ≡ find R q ((k, w) ∷ fs) → find R q es ≡ find R q fs
  tails k q v w es fs g h =
      elim (eq_by_cmp R q k) as (λ b. eq_by_cmp R q k ≡ b
      → cond b (Some v) (find R q es) ≡ cond b (Some w) (find R q fs)
      → find R q es ≡ find R q fs) [
        | true ↦ λ p is. let t = equal _ (subst T (sym p) tt) in
            find-below q es (below-tied q k es t g) ∙ sym (find-below q fs (below-tied q k fs t h))
        | false ↦ λ p is. is
      ] refl

  module _ (P : K → Type 0) (same : (x y : K) → P x → P y → R x y ≡ Equal → x ≡ y) where
    pub entries-same : (es fs : List (K × X)) → All (λ e. P e.0) es → All (λ e. P e.0) fs → T (is_sorted R es)
        → T (is_sorted R fs) → ((q : K) → find R q es ≡ find R q fs) → es ≡ fs
    entries-same [] [] a b g h is = refl
    entries-same [] (f ∷ fs) a b g h is = absurd (not-None f.1 (sym (find-first f fs) ∙ sym (is f.0)))
    entries-same (e ∷ es) [] a b g h is = absurd (not-None e.1 (sym (find-first e es) ∙ is e.0))
    entries-same (e ∷ es) (f ∷ fs) a b g h is =
        elim (R e.0 f.0) as (λ r. R e.0 f.0 ≡ r → e ∷ es ≡ f ∷ fs) [
          | Less ↦ λ p. absurd (missed e f es fs p (first _ _ h) (is e.0))
          | Greater ↦ λ p.
              absurd (missed f e fs es (o.antisymm f.0 e.0 ∙ ap ordering_reverse p) (first _ _ g) (sym (is f.0)))
          | Equal ↦ λ p.
              let keys = same _ _ (All-head (λ e. P e.0) e es a) (All-head (λ e. P e.0) f fs b) p in
              let values = same-Some _ _
              (sym (find-first e es) ∙ is e.0 ∙ ap (λ r. cond (is_eq r) (Some f.1) (find R e.0 fs)) p) in
              let rest = entries-same es fs (All-tail (λ e. P e.0) e es a) (All-tail (λ e. P e.0) f fs b) (second _ _ g)
              (second _ _ h)
              (λ q. tails e.0 q e.1 f.1 es fs (first _ _ g) (below-tied _ _ fs p (first _ _ h))
              (is q ∙ ap (λ k. find R q ((k, f.1) ∷ fs)) (sym keys))) in
              λ i. (keys i, values i) ∷ rest i
        ] refl

  pub keys-put : (P : K → Type 0) (k : K) (v : X) (es : List (K × X)) → P k → All (λ e. P e.0) es
      → All (λ e. P e.0) (put R k v es)
  keys-put P k v [] h a = All-cons (λ e. P e.0) (k, v) [] h (All-nil (λ e. P e.0))
  keys-put P k v (e ∷ es) h a =
      let one = All-head (λ e. P e.0) e es a in
      let rest = All-tail (λ e. P e.0) e es a in
      elim (R k e.0) as (λ r. All (λ e. P e.0) (by_order r ((k, v) ∷ e ∷ es) ((e.0, v) ∷ es) (e ∷ put R k v es))) [
        | Less ↦ All-cons (λ e. P e.0) (k, v) (e ∷ es) h a
        | Equal ↦ All-cons (λ e. P e.0) (e.0, v) es one rest
        | Greater ↦ All-cons (λ e. P e.0) e (put R k v es) one (keys-put P k v es h rest)
      ]

  -- the value of k in the place of the old one, if there was one
  pub sum-put : (f : X → ℕ) (k : K) (v : X) (es : List (K × X)) → T (is_sorted R es)
      → sum_by (λ e. f e.1) (put R k v es) + unwrap_or (option_map f (find R k es)) 0 ≡ sum_by (λ e. f e.1) es + f v
  sum-put f k v [] h = omega arith
  sum-put f k v (e ∷ es) h =
      let one = sum_by-cons (λ e. f e.1) e es in
      let rest = sum-put f k v es (second (below_all R e.0 es) (is_sorted R es) h) in
      elim (R k e.0) as (λ r. R k e.0 ≡ r
      → sum_by (λ e. f e.1) (by_order r ((k, v) ∷ e ∷ es) ((e.0, v) ∷ es) (e ∷ put R k v es))
      + unwrap_or (option_map f (cond (is_eq r) (Some e.1) (find R k es))) 0 ≡ sum_by (λ e. f e.1) (e ∷ es) + f v) [
        | Less ↦ λ p.
            let new = sum_by-cons (λ e. f e.1) (k, v) (e ∷ es) in
            let none : find R k es ≡ None = find-below k es (below-less k e.0 es p (first _ _ h)) in
            let zero : unwrap_or (option_map f (find R k es)) 0 ≡ 0 = ap (λ w. unwrap_or (option_map f w) 0) none in
            omega (arith, new, zero)
        | Equal ↦ λ p. let new = sum_by-cons (λ e. f e.1) (e.0, v) es in omega (arith, new, one)
        | Greater ↦ λ p. let new = sum_by-cons (λ e. f e.1) e (put R k v es) in omega (arith, new, one, rest)
      ] refl
