-- A value that is put at a key that ties with one of the map is put at that one: the key that is there stays. By
-- induction on the entries, which rise.
use Rattle.std.proofs.Common.{◌≡◌, true, cond, T, List, [], ◌∷◌, Some, None, is_some, refl, sym, ap, subst, ◌∙◌}
use Rattle.std.proofs.lemmas.Bool.{false≢true}
use Rattle.std.specs.Cmp.{IsTotalOrder}
use Rattle.std.specs.FinMap.{FinMap, entries, entries_sorted, entries-insert, get, get-entries, insert}
use Rattle.std.specs.FinMap.{same_entries_map}
use Rattle.std.specs.FinMap.Entries.{find, put, is_sorted, below_all, by_order}
use Rattle.std.specs.Ordering.{is_eq, is_lt}
use Rattle.std.specs.declared.cmp.Ordering.{Ordering}
use Rattle.std.specs.declared.cmp.Ordering.TheVariants.{Less, Equal, Greater}
use Rattle.kc_limit.proofs.EntryLemmas.{first, less, second}
use Rattle.kc_keyed.proofs.AmongLemmas.{both}

module _ {K X : Type 0} (R : K → K → Ordering) (o : IsTotalOrder R) where
  -- what is less than a key that is below all of a list is below all of it
  below-less : (x y : K) (es : List (K × X)) → R x y ≡ Less → T (below_all R y es) → T (below_all R x es)
  below-less x y [] p h = tt
  below-less x y (e ∷ es) p h =
      both _ _ (subst (λ r. T (is_lt r)) (sym (o.trans x y e.0 p (less _ (first _ _ h)))) tt)
      (below-less x y es p (second _ _ h))

  -- what is below all isn't found
  find-below : (q : K) (es : List (K × X)) → T (below_all R q es) → find R q es ≡ None
  find-below q [] h = refl
  find-below q (e ∷ es) h =
      ap (λ r. cond (is_eq r) (Some e.1) (find R q es)) (less _ (first _ _ h)) ∙ find-below q es (second _ _ h)

  -- the key that is there stays
  put-tied : (k q : K) (v : X) (es : List (K × X)) → R k q ≡ Equal → T (is_sorted R es) → is_some (find R q es) ≡ true
      → put R k v es ≡ put R q v es
  put-tied k q v [] t s h = absurd (false≢true h)
  put-tied k q v (e ∷ es) t s h =
      ap (λ r. by_order r ((k, v) ∷ e ∷ es) ((e.0, v) ∷ es) (e ∷ put R k v es)) (o.congr k q e.0 t)
      ∙ elim (R q e.0) as (λ r. R q e.0 ≡ r → is_some (cond (is_eq r) (Some e.1) (find R q es)) ≡ true
      → by_order r ((k, v) ∷ e ∷ es) ((e.0, v) ∷ es) (e ∷ put R k v es)
      ≡ by_order r ((q, v) ∷ e ∷ es) ((e.0, v) ∷ es) (e ∷ put R q v es)) [
        | Less ↦ λ p there.
            let none = find-below q es (below-less q e.0 es p (first (below_all R e.0 es) _ s)) in
            absurd (false≢true (sym (ap is_some none) ∙ there))
        | Equal ↦ λ p there. refl
        | Greater ↦ λ p there. ap (λ r. e ∷ r) (put-tied k q v es t (second (below_all R e.0 es) _ s) there)
      ] refl h

  -- so the maps are one
  pub insert-tied : (m : FinMap R X) (k q : K) (v : X) → R k q ≡ Equal → is_some (get m q) ≡ true
      → insert m k v ≡ insert m q v
  insert-tied m k q v t h =
      same_entries_map (insert m k v) (insert m q v)
      (entries-insert o m k v
      ∙ put-tied k q v (entries m) t (entries_sorted m) (sym (ap is_some (get-entries m q)) ∙ h)
      ∙ sym (entries-insert o m q v))
