-- Maps of values that rise by joins have a measure that never rises and, where it stays, nothing has changed: the
-- ranks of the values, and for each value that may still come more than any rank. A new value pays for its rank, and
-- a value that rises has a lesser rank; the laws of the domain say both, and the sum after a put adds them up.
use Rattle.std.proofs.Common.{◌≡◌, ℕ, suc, ◌+◌, ◌-◌, ◌*◌, ◌<◌, ◌≤◌, ◌⊎◌, Bool, true, cond, Option, Some, None, IfSome, inl, inr, ⊎_elim, sum_by, unwrap_or, option_map, is_some, refl, sym, subst, arith}
use Rattle.std.proofs.lemmas.Bool.{cases_lt, cond_both}
use Rattle.std.specs.Cmp.{IsTotalOrder}
use Rattle.std.specs.FinMap.{FinMap, entries, entries_sorted, entries-insert, get, get-entries, contains_key, len, len-insert}
use Rattle.std.specs.FinMap.Entries.{put}
use Rattle.std.specs.declared.cmp.Ordering.{Ordering}
use Rattle.std.specs.declared.cmp.Ordering.TheVariants.{Equal}
use Rattle.kc_lattice.specs.Laws.{Laws, AllAlike}
use Rattle.kc_cert.specs.IterationLimit.{also}
use Rattle.kc_limit.specs.Order.{IsPartBelow}
use Rattle.kc_limit.specs.Valid.{IsMap}
use Rattle.kc_limit.proofs.EntryLemmas.{sum-put}
use Rattle.kc_limit.proofs.MapLemmas.{raised, raised-same}

-- the ranks of the values, and more than a rank for each value that may come until there are so many
abbrev pub potential : {K X : Type 0} {R : K → K → Ordering} → ℕ → ℕ → (X → ℕ) → FinMap R X → ℕ
potential most weight rank m = sum_by (λ e. rank e.1) (entries m) + (most - len m) * (weight + 1)

-- a new value
came : (most weight n new old rank : ℕ) → n + 1 ≤ most → new + 0 ≡ old + rank → rank ≤ weight
    → new + (most - (n + 1)) * (weight + 1) < old + (most - n) * (weight + 1)
came most weight n new old rank few e h =
    let more : most - n ≡ suc (most - (n + 1)) = omega (arith, few) in
    subst (λ k. new + (most - (n + 1)) * (weight + 1) < old + k * (weight + 1)) (sym more) (omega (arith, e, h))

module _ {K X : Type 0} {R : K → K → Ordering} (o : IsTotalOrder R) {valid : X → Type 0} {below : X → X → Bool}
    {joined : X → X → X} {top_of : X → X} {rank : X → ℕ}
    (laws : Laws valid AllAlike below joined top_of rank) (most weight : ℕ)
    (bounded : (x : X) → valid x → rank x ≤ weight) (P : K → Type 0)
    (same : (x y : K) → P x → P y → R x y ≡ Equal → x ≡ y) where
  sum-raised : (m : FinMap R X) (k : K) (x : X)
      → sum_by (λ e. rank e.1) (entries (raised joined m k x)) + unwrap_or (option_map rank (get m k)) 0
      ≡ sum_by (λ e. rank e.1) (entries m) + rank (also joined (get m k) x)
  sum-raised m k x =
      subst (λ es. sum_by (λ e. rank e.1) es + unwrap_or (option_map rank (get m k)) 0
      ≡ sum_by (λ e. rank e.1) (entries m) + rank (also joined (get m k) x))
      (sym (entries-insert o m k (also joined (get m k) x)))
      (subst (λ p. sum_by (λ e. rank e.1) (put R k (also joined (get m k) x) (entries m)) + unwrap_or
      (option_map rank p) 0
      ≡ sum_by (λ e. rank e.1) (entries m) + rank (also joined (get m k) x))
      (sym (get-entries m k))
      (sum-put R o rank k (also joined (get m k) x) (entries m) (entries_sorted m)))

  -- by what the map has at the key
  by-found : (m : FinMap R X) (k : K) (x : X) (p : Option X) → IsMap P valid m → P k → valid x → get m k ≡ p
      → IfSome p valid → len (raised joined m k x) ≤ most
      → sum_by (λ e. rank e.1) (entries (raised joined m k x)) + unwrap_or (option_map rank p) 0
      ≡ sum_by (λ e. rank e.1) (entries m) + rank (also joined p x)
      → len (raised joined m k x) ≡ cond (is_some p) (len m) (len m + 1)
      → (potential most weight rank (raised joined m k x) < potential most weight rank m)
      ⊎ (raised joined m k x ≡ m)
  by-found m k x None h hk hx e hp few sum count =
      inl (subst (λ n. sum_by (λ e. rank e.1) (entries (raised joined m k x)) + (most - n) * (weight + 1)
      < potential most weight rank m) (sym count)
      (came most weight (len m) (sum_by (λ e. rank e.1) (entries (raised joined m k x)))
      (sum_by (λ e. rank e.1) (entries m)) (rank x) (subst (λ n. n ≤ most) count few) sum (bounded x hx)))
  by-found m k x (Some y) h hk hx e hp few sum count =
      let up = laws.join_left y x hp hx tt in
      let vj = laws.join_valid y x hp hx tt in
      let falls : rank (joined y x) ≤ rank y = laws.rank_falls y (joined y x) hp vj up in
      let new = sum_by (λ e. rank e.1) (entries (raised joined m k x)) in
      let old = sum_by (λ e. rank e.1) (entries m) in
      ⊎_elim
      (λ less. inl (subst (λ n. new + (most - n) * (weight + 1) < old + (most - len m) * (weight + 1)) (sym count)
      (omega (arith, less, sum))))
      (λ no. let tied : rank y ≡ rank (joined y x) = omega (arith, falls, no) in
      let is : y ≡ joined y x = laws.rank_tied y (joined y x) hp vj up tied in
      let has : below x y ≡ true = subst (λ z. below x z ≡ true) (sym is) (laws.join_right y x hp hx tt) in
      inr (raised-same o laws P same m k x h hk hx (subst (λ p. IsPartBelow below (Some x) p) (sym e) has)))
      (cases_lt (rank (joined y x)) (rank y))

  -- with a value joined in, the measure is less, or nothing has changed
  pub raised-falls : (m : FinMap R X) (k : K) (x : X) → IsMap P valid m → P k → valid x
      → len (raised joined m k x) ≤ most
      → (potential most weight rank (raised joined m k x) < potential most weight rank m) ⊎ (raised joined m k x ≡ m)
  raised-falls m k x h hk hx few =
      by-found m k x (get m k) h hk hx refl (h.values k) few (sum-raised m k x)
      (len-insert o m k (also joined (get m k) x))

  -- keys come, and none goes
  pub len-raised : (m : FinMap R X) (k : K) (x : X) → len m ≤ len (raised joined m k x)
  len-raised m k x =
      subst (λ n. len m ≤ n) (sym (len-insert o m k (also joined (get m k) x)))
      (cond_both (contains_key m k) (len m) (len m + 1) (λ n. len m ≤ n) (λ e. omega arith) (λ e. omega arith))
