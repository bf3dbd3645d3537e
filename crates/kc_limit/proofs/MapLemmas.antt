-- Maps of values that rise by joins: the map with a value joined in at a key is the least one above the map that has
-- the value there. All is read through look-ups, key by key, and two maps are equal where look-ups give the same.
use Rattle.std.proofs.Common.{◌≡◌, ℕ, Bool, true, false, cond, Option, Some, All, IfSome, refl, sym, ◌∙◌, subst}
use Rattle.std.proofs.lemmas.Bool.{cond-true}
use Rattle.std.specs.Cmp.{IsTotalOrder, Equal-is, eq_by_cmp_equiv}
use Rattle.std.specs.FinMap.{FinMap, entries, entries_sorted, entries-insert, get, get-entries, get-insert, get_tied, insert, same_entries_map}
use Rattle.std.specs.Ordering.{eq_by_cmp}
use Rattle.std.specs.declared.cmp.Ordering.{Ordering}
use Rattle.std.specs.declared.cmp.Ordering.TheVariants.{Equal}
use Rattle.kc_lattice.specs.Laws.{Laws, AllAlike}
use Rattle.kc_cert.specs.IterationLimit.{also}
use Rattle.kc_limit.specs.Order.{IsPartBelow, IsMapBelow}
use Rattle.kc_limit.specs.Valid.{IsMap}
use Rattle.kc_limit.proofs.EntryLemmas.{entries-same, keys-put}
use Rattle.kc_limit.proofs.PartLemmas.{part-refl, part-trans, part-antisym, also-valid, also-left, also-right, also-least}

-- the value joined in at the key
abbrev pub raised : {K X : Type 0} {R : K → K → Ordering} → (X → X → X) → FinMap R X → K → X → FinMap R X
raised joined m k x = insert m k (also joined (get m k) x)

module _ {K X : Type 0} {R : K → K → Ordering} (o : IsTotalOrder R) {valid : X → Type 0} {below : X → X → Bool}
    {joined : X → X → X} {top_of : X → X} {rank : X → ℕ}
    (laws : Laws valid AllAlike below joined top_of rank) where
  get-raised : (m : FinMap R X) (k : K) (x : X) (q : K)
      → get (raised joined m k x) q ≡ cond (eq_by_cmp R q k) (Some (also joined (get m k) x)) (get m q)
  get-raised m k x q = get-insert o m k (also joined (get m k) x) q

  -- what holds of the raised value at its key, and of each old one elsewhere, holds of what is found
  at-raised : (m : FinMap R X) (k : K) (x : X) (Q : K → Option X → Type 0)
      → ((q : K) → R q k ≡ Equal → Q q (Some (also joined (get m k) x))) → ((q : K) → Q q (get m q)) → (q : K)
      → Q q (get (raised joined m k x) q)
  at-raised m k x Q new old q = subst (Q q) (sym (get-raised m k x q)) (by (eq_by_cmp R q k) refl)
    where
      by : (b : Bool) → eq_by_cmp R q k ≡ b → Q q (cond b (Some (also joined (get m k) x)) (get m q))
      by true e = new q ((Equal-is (R q k)).0 e)
      by false e = old q

  pub map-refl : (m : FinMap R X) → ((k : K) → IfSome (get m k) valid) → IsMapBelow below m m
  map-refl m h k = part-refl laws (get m k) (h k)

  pub map-trans : (m n l : FinMap R X) → ((k : K) → IfSome (get m k) valid) → ((k : K) → IfSome (get n k) valid)
      → ((k : K) → IfSome (get l k) valid) → IsMapBelow below m n → IsMapBelow below n l → IsMapBelow below m l
  map-trans m n l hm hn hl a b k = part-trans laws (get m k) (get n k) (get l k) (hm k) (hn k) (hl k) (a k) (b k)

  pub raised-values : (m : FinMap R X) (k : K) (x : X) → ((k : K) → IfSome (get m k) valid) → valid x → (q : K)
      → IfSome (get (raised joined m k x) q) valid
  raised-values m k x h hx = at-raised m k x (λ q p. IfSome p valid) (λ q e. also-valid laws (get m k) x (h k) hx) h

  pub raised-above : (m : FinMap R X) (k : K) (x : X) → ((k : K) → IfSome (get m k) valid) → valid x
      → IsMapBelow below m (raised joined m k x)
  raised-above m k x h hx = at-raised m k x (λ q p. IsPartBelow below (get m q) p)
      (λ q e. subst (λ p. IsPartBelow below p (Some (also joined (get m k) x))) (get_tied o m q k e)
      (also-left laws (get m k) x (h k) hx))
      (λ q. part-refl laws (get m q) (h q))

  pub raised-has : (m : FinMap R X) (k : K) (x : X) → ((k : K) → IfSome (get m k) valid) → valid x
      → IsPartBelow below (Some x) (get (raised joined m k x) k)
  raised-has m k x h hx =
      subst (λ p. IsPartBelow below (Some x) p)
      (sym (get-raised m k x k ∙ cond-true (eq_by_cmp R k k) (Some (also joined (get m k) x)) (get m k)
      ((eq_by_cmp_equiv o).refl k)))
      (also-right laws (get m k) x (h k) hx)

  pub raised-least : (m n : FinMap R X) (k : K) (x : X) → ((k : K) → IfSome (get m k) valid)
      → ((k : K) → IfSome (get n k) valid) → valid x → IsMapBelow below m n → IsPartBelow below (Some x) (get n k)
      → IsMapBelow below (raised joined m k x) n
  raised-least m n k x hm hn hx a b = at-raised m k x (λ q p. IsPartBelow below p (get n q))
      (λ q e. subst (λ p. IsPartBelow below (Some (also joined (get m k) x)) p) (get_tied o n q k e)
      (also-least laws (get m k) x (get n k) (hm k) hx (hn k) (a k) b))
      a

  module _ (P : K → Type 0) (same : (x y : K) → P x → P y → R x y ≡ Equal → x ≡ y) where
    pub raised-map : (m : FinMap R X) (k : K) (x : X) → IsMap P valid m → P k → valid x
        → IsMap P valid (raised joined m k x)
    raised-map m k x h hk hx = record {
      keys = subst (λ es. All (λ e. P e.0) es) (sym (entries-insert o m k (also joined (get m k) x)))
          (keys-put R o P k (also joined (get m k) x) (entries m) hk h.keys);
      values = raised-values m k x h.values hx;
    }

    pub map-antisym : (m n : FinMap R X) → IsMap P valid m → IsMap P valid n → IsMapBelow below m n
        → IsMapBelow below n m
        → m ≡ n
    map-antisym m n hm hn a b =
        same_entries_map m n
        (entries-same R o P same (entries m) (entries n) hm.keys hn.keys (entries_sorted m) (entries_sorted n)
        (λ q. sym (get-entries m q)
        ∙ part-antisym laws (get m q) (get n q) (hm.values q) (hn.values q) (a q) (b q) ∙ get-entries n q))

    -- a value that is there already changes nothing
    pub raised-same : (m : FinMap R X) (k : K) (x : X) → IsMap P valid m → P k → valid x
        → IsPartBelow below (Some x) (get m k) → raised joined m k x ≡ m
    raised-same m k x h hk hx b =
        map-antisym (raised joined m k x) m (raised-map m k x h hk hx) h
        (raised-least m m k x h.values h.values hx (map-refl m h.values) b) (raised-above m k x h.values hx)
