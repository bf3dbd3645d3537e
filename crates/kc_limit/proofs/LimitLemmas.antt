-- The rounds and their limit: a table whose round changes nothing is one that has all that it demands, two such
-- tables of the rounds are equal, and the tables of the rounds rise.
use Rattle.std.proofs.Common.{◌≡◌, ℕ, zero, suc, ◌+◌, ◌-◌, ◌≤◌, true, List, [], ◌∷◌, All, IfSome, ⊎_elim, fold, length, le_trans, unwrap_or, refl, sym, ap, ◌∙◌, subst, arith}
use Rattle.std.proofs.lemmas.Bool.{cases_lt, cond_both}
use Rattle.std.proofs.lemmas.List.Elements.{All-nil}
use Rattle.std.specs.Cmp.{IsTotalOrder}
use Rattle.std.specs.FinMap.{FinMap, contains_key, entries, empty, get, get-empty, insert, len, len-empty, len-entries, len-insert}
use Rattle.std.specs.declared.cmp.Ordering.{Ordering}
use Rattle.kc_frames.specs.Clobber.{IsClobber, clobber_joined, nothing_written}
use Rattle.kc_frames.specs.ClobberSets.{ClobberSets}
use Rattle.kc_image.specs.Image.{Contents}
use Rattle.kc_regions.specs.Description.{Description}
use Rattle.kc_state.specs.State.{IsState, state_joined}
use Rattle.kc_state.specs.User.{user_below}
use Rattle.kc_state.specs.UserLaws.{user_laws}
use Rattle.kc_state.specs.declared.state.AbsState.{AbsState}
use Rattle.kc_cert.specs.Conditions.{start_user}
use Rattle.kc_cert.specs.IterationLimit.{Demand, ForUser, ForContext, ForClobber, ForNode, IsIterationLimit, Table, add, also, demands, next_table, place_order, table_after}
use Rattle.kc_cert.specs.Table.{key_order}
use Rattle.kc_limit.specs.Order.{IsClosed, Fits, Holds}
use Rattle.kc_limit.specs.Valid.{IsTable, IsDemand, IsRounds, IsKeyValue, IsNodePlace}
use Rattle.kc_limit.proofs.KeyLemmas.{key-total, place-total}
use Rattle.kc_limit.proofs.TableLemmas.{all-hold, all-same, all-table, all-above}

no-items : {A : Type 0} (xs : List A) → length xs ≡ 0 → xs ≡ []
no-items [] e = refl
no-items (x ∷ xs) e = absurd (omega (arith, e))

no-entries : {K : Type 0} (R : K → K → Ordering) (X : Type 0) → entries (empty {X = X} {R = R}) ≡ []
no-entries R X = no-items _ (sym (len-entries (empty {X = X} {R = R})) ∙ len-empty R X)

module _ (image : Contents) (d : Description) where
  pub next-closed : (t : Table) → IsTable t → All IsDemand (demands image d t) → next_table image d t ≡ t
      → All (Holds t) (demands image d t)
  next-closed t h hx e =
      subst (λ u. All (Holds u) (demands image d t)) e (all-hold t (demands image d t) h hx)

  pub closed-next : (t : Table) → IsTable t → All IsDemand (demands image d t) → All (Holds t) (demands image d t)
      → next_table image d t ≡ t
  closed-next t h hx k = all-same t (demands image d t) h hx k

  -- n rounds after a table that its round doesn't change
  stays : (t : Table) (m n : ℕ) → table_after image d m ≡ t → next_table image d t ≡ t → table_after image d (n + m) ≡ t
  stays t m zero is same = let none : zero + m ≡ m = omega arith in ap (table_after image d) none ∙ is
  stays t m (suc n) is same =
      let one : suc n + m ≡ suc (n + m) = omega arith in
      ap (table_after image d) one ∙ ap (next_table image d) (stays t m n is same) ∙ same

  later : (t u : Table) (m n : ℕ) → table_after image d m ≡ t → next_table image d t ≡ t → table_after image d n ≡ u
      → m ≤ n → t ≡ u
  later t u m n is same at le =
      let count : (n - m) + m ≡ n = omega (arith, le) in
      sym (stays t m (n - m) is same) ∙ ap (table_after image d) count ∙ at

  pub limit-once : (t u : Table) → IsIterationLimit image d t → IsIterationLimit image d u → t ≡ u
  limit-once t u a b =
      ⊎_elim (λ less. sym (later u t b.0 a.0 b.1 b.2 a.1 (omega (arith, less))))
      (λ le. later t u a.0 b.0 a.1 a.2 b.1 le)
      (cases_lt b.0 a.0)

-- ---- tables of the rounds never get smaller

module _ {K X : Type 0} {R : K → K → Ordering} (o : IsTotalOrder R) where
  len-more : (m : FinMap R X) (k : K) (v : X) → len m ≤ len (insert m k v)
  len-more m k v =
      subst (λ n. len m ≤ n) (sym (len-insert o m k v))
      (cond_both (contains_key m k) (len m) (len m + 1) (λ n. len m ≤ n) (λ e. omega arith) (λ e. omega arith))

add-fits : (t : Table) (x : Demand) → Fits (add t x) → Fits t
add-fits t (ForUser u) h = record { contexts = h.contexts; nodes = h.nodes }
add-fits t (ForContext key) h = record {
  contexts = le_trans (len-more key-total t.contexts key (unwrap_or (get t.contexts key) nothing_written)) h.contexts;
  nodes = h.nodes;
}
add-fits t (ForClobber key c) h = record {
  contexts = le_trans (len-more key-total t.contexts key (also clobber_joined (get t.contexts key) c)) h.contexts;
  nodes = h.nodes;
}
add-fits t (ForNode key site s) h = record {
  contexts = h.contexts;
  nodes = le_trans (len-more place-total t.nodes (key, site) (also state_joined (get t.nodes (key, site)) s)) h.nodes;
}

pub all-fit : (t : Table) (xs : List Demand) → Fits (fold add t xs) → Fits t
all-fit t [] h = h
all-fit t (x ∷ xs) h = add-fits t x (all-fit (add t x) xs h)

module _ (image : Contents) (d : Description) where
  earlier-fits : (m n : ℕ) → Fits (table_after image d (n + m)) → Fits (table_after image d m)
  earlier-fits m zero h = let none : zero + m ≡ m = omega arith in subst (λ k. Fits (table_after image d k)) none h
  earlier-fits m (suc n) h =
      let one : suc n + m ≡ suc (n + m) = omega arith in
      earlier-fits m n
      (all-fit (table_after image d (n + m)) (demands image d (table_after image d (n + m)))
      (subst (λ k. Fits (table_after image d k)) one h))

  -- where the limit is within the limits of a certificate, all rounds are
  pub limit-fits : (t : Table) → IsIterationLimit image d t → Fits t → (m : ℕ) → Fits (table_after image d m)
  limit-fits t limit h m =
      ⊎_elim
      (λ less. let count : (m - limit.0) + limit.0 ≡ m = omega (arith, less) in
      subst Fits (sym (sym (ap (table_after image d) count) ∙ stays image d t limit.0 (m - limit.0) limit.1 limit.2)) h)
      (λ le. let count : (limit.0 - m) + m ≡ limit.0 = omega (arith, le) in
      earlier-fits m (limit.0 - m) (subst Fits (sym (ap (table_after image d) count ∙ limit.1)) h))
      (cases_lt limit.0 m)

  -- ---- where all that the rounds demand is valid

  pub round-table : IsRounds image d → (n : ℕ) → IsTable (table_after image d n)
  round-table valid zero = record {
    user = valid.start;
    contexts = record {
      keys = subst (λ es. All (λ e. IsKeyValue e.0) es) (sym (no-entries key_order ClobberSets))
          (All-nil (λ e. IsKeyValue e.0));
      values = λ k. subst (λ p. IfSome p IsClobber) (sym (get-empty key_order k)) tt;
    };
    nodes = record {
      keys = subst (λ es. All (λ e. IsNodePlace e.0) es) (sym (no-entries place_order AbsState))
          (All-nil (λ e. IsNodePlace e.0));
      values = λ k. subst (λ p. IfSome p IsState) (sym (get-empty place_order k)) tt;
    };
  }
  round-table valid (suc n) =
      all-table (table_after image d n) (demands image d (table_after image d n)) (round-table valid n)
      (valid.demands n)

  pub start-below : IsRounds image d → (n : ℕ) → user_below (start_user d) (table_after image d n).user ≡ true
  start-below valid zero = user_laws.below_refl (start_user d) valid.start
  start-below valid (suc n) =
      let t = table_after image d n in
      let up = all-above t (demands image d t) (round-table valid n) (valid.demands n) in
      user_laws.below_trans (start_user d) t.user (next_table image d t).user valid.start (round-table valid n).user
      (round-table valid (suc n)).user (start-below valid n) up.user

  pub limit-closed : IsRounds image d → (t : Table) → IsIterationLimit image d t → IsClosed image d t
  limit-closed valid t limit = subst (IsClosed image d) limit.1 (record {
    start = start-below valid limit.0;
    demands = next-closed image d (table_after image d limit.0) (round-table valid limit.0) (valid.demands limit.0)
        (subst (λ u. next_table image d u ≡ u) (sym limit.1) limit.2);
  })
