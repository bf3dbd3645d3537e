-- Rows as a map from their keys, where no two keys tie: a value that is joined into that of a row, or that comes with
-- a new key, is joined into the map at that key. Two maps whose keys are among those of the rows are equal where
-- look-ups give the same, since among those the keys that tie are one.
use Rattle.std.proofs.Common.{◌≡◌, ℕ, ◌+◌, false, cond, List, [], ◌∷◌, ◌++◌, Some, None, All, is_some, length, get_or}
use Rattle.std.proofs.Common.{set, slice_get, sym, ap, subst, ◌∙◌, arith}
use Rattle.std.proofs.lemmas.List.Elements.{All-nil}
use Rattle.std.specs.Cmp.{IsTotalOrder}
use Rattle.std.specs.FinMap.{FinMap, entries, entries_sorted, entries-insert, empty, get, get-entries, get-from_entries}
use Rattle.std.specs.FinMap.{get_tied, get-insert, insert, len, len-empty, len-entries, len-insert, same_entries_map}
use Rattle.std.specs.FinMap.Entries.{find, find-append}
use Rattle.std.specs.List.{zip, IsDistinct, AllByRecursion}
use Rattle.std.specs.Ordering.{eq_by_cmp}
use Rattle.std.specs.declared.cmp.Ordering.{Ordering}
use Rattle.std.specs.declared.cmp.Ordering.TheVariants.{Equal}
use Rattle.kc_cert.specs.IterationLimit.{also}
use Rattle.kc_limit.proofs.EntryLemmas.{entries-same, keys-put}
use Rattle.kc_rising.specs.Values.{raised_at}
use Rattle.kc_keyed.specs.Keyed.{AreRows, CountsRows, FindsNoOther, FindsRows, InsertsRows, JoinsAtKeys, JoinsRows}
use Rattle.kc_keyed.specs.Keyed.{NoTwoTie, TiesWithNone, map_of}
use Rattle.kc_keyed.proofs.AmongLemmas.{Among, all-among, among-at, among-last, at-some, front-among, got, no-items}
use Rattle.kc_keyed.proofs.AmongLemmas.{zip-push}
use Rattle.kc_keyed.proofs.FindLemmas.{apart-push, find-apart, find-at, find-set, last-apart, told, turned}
use Rattle.kc_keyed.proofs.TiedLemmas.{insert-tied}

module _ {K X : Type 0} (R : K → K → Ordering) (o : IsTotalOrder R) where
  no-entries : entries (empty {X = X} {R = R}) ≡ []
  no-entries = no-items _ (sym (len-entries (empty {X = X} {R = R})) ∙ len-empty R X)

  -- what holds of each key of the rows holds of each of the map
  keys-kept : (P : K → Type 0) (ks : List K) (vs : List X) → AllByRecursion P ks
      → All (λ e. P e.0) (entries (map_of {R = R} ks vs))
  keys-kept P [] vs h = subst (λ es. All (λ e. P e.0) es) (sym no-entries) (All-nil (λ e. P e.0))
  keys-kept P (k ∷ ks) [] h = subst (λ es. All (λ e. P e.0) es) (sym no-entries) (All-nil (λ e. P e.0))
  keys-kept P (k ∷ ks) (v ∷ vs) h =
      subst (λ es. All (λ e. P e.0) es) (sym (entries-insert o (map_of ks vs) k v))
      (keys-put R o P k v (entries (map_of {R = R} ks vs)) h.0 (keys-kept P ks vs h.1))

  -- two maps whose keys are those of rows are equal where look-ups give the same
  one-map : (ks : List K) → NoTwoTie R ks → (m n : FinMap R X) → All (λ e. Among ks e.0) (entries m)
      → All (λ e. Among ks e.0) (entries n) → ((q : K) → get m q ≡ get n q) → m ≡ n
  one-map ks h m n a b is =
      same_entries_map m n
      (entries-same R o (Among ks) (told R o ks h) (entries m) (entries n) a b (entries_sorted m) (entries_sorted n)
      (λ q. sym (get-entries m q) ∙ is q ∙ get-entries n q))

  -- ---- at a row's own key

  get-at : (ks : List K) (vs : List X) (n : ℕ) (q : K) → NoTwoTie R ks → length vs ≡ length ks → slice_get ks n ≡ Some q
      → get (map_of {R = R} ks vs) q ≡ slice_get vs n
  get-at ks vs n q h l e = get-from_entries o (zip ks vs) q ∙ find-at R o ks vs n q h l e

  insert-at : (ks : List K) (vs : List X) (n : ℕ) (q : K) (v : X) → NoTwoTie R ks → length vs ≡ length ks
      → slice_get ks n ≡ Some q → insert (map_of {R = R} ks vs) q v ≡ map_of ks (set vs n v)
  insert-at ks vs n q v h l e =
      let m : FinMap R X = map_of ks vs in
      let mine = keys-kept (Among ks) ks vs (all-among ks) in
      one-map ks h (insert m q v) (map_of ks (set vs n v))
      (subst (λ es. All (λ e. Among ks e.0) es) (sym (entries-insert o m q v))
      (keys-put R o (Among ks) q v (entries m) (among-at ks n q e) mine))
      (keys-kept (Among ks) ks (set vs n v) (all-among ks))
      (λ p. get-insert o m q v p ∙ ap (λ r. cond (eq_by_cmp R p q) (Some v) r) (get-from_entries o (zip ks vs) p)
      ∙ sym (find-set R o ks vs n q p v h l e) ∙ sym (get-from_entries o (zip ks (set vs n v)) p))

  -- ---- at a key that ties with none

  insert-new : (ks : List K) (vs : List X) (k : K) (v : X) → NoTwoTie R (ks ++ k ∷ []) → length vs ≡ length ks
      → insert (map_of {R = R} ks vs) k v ≡ map_of (ks ++ k ∷ []) (vs ++ v ∷ [])
  insert-new ks vs k v h l =
      let m : FinMap R X = map_of ks vs in
      let all = ks ++ k ∷ [] in
      let mine = keys-kept (Among all) ks vs (front-among ks (k ∷ [])) in
      one-map all h (insert m k v) (map_of all (vs ++ v ∷ []))
      (subst (λ es. All (λ e. Among all e.0) es) (sym (entries-insert o m k v))
      (keys-put R o (Among all) k v (entries m) (among-last ks k) mine))
      (keys-kept (Among all) all (vs ++ v ∷ []) (all-among all))
      (λ p. get-insert o m k v p ∙ ap (λ r. cond (eq_by_cmp R p k) (Some v) r) (get-from_entries o (zip ks vs) p)
      ∙ sym (find-append R o (zip ks vs) k v p (find-apart R o ks vs k (last-apart R o ks k h)))
      ∙ ap (find R p) (sym (zip-push ks vs k v l)) ∙ sym (get-from_entries o (zip all (vs ++ v ∷ [])) p))

  -- a value is joined into that of a row, whose key ties with k
  pub raised-row : (joined : X → X → X) (ks : List K) (vs : List X) (n : ℕ) (k q : K) (x : X) → NoTwoTie R ks
      → length vs ≡ length ks → slice_get ks n ≡ Some q → R k q ≡ Equal
      → insert (map_of {R = R} ks vs) k (also joined (get (map_of {R = R} ks vs) k) x)
      ≡ map_of ks (raised_at joined vs n x)
  raised-row joined ks vs n k q x h l e t =
      let m : FinMap R X = map_of ks vs in
      let there : get m q ≡ Some (get_or vs n x) =
      get-at ks vs n q h l e ∙ got vs n x (omega (arith, at-some ks n q e, l)) in
      let is : get m k ≡ Some (get_or vs n x) = get_tied o m q k (turned R o k q t) ∙ there in
      ap (λ p. insert m k (also joined p x)) is
      ∙ insert-tied R o m k q (joined (get_or vs n x) x) t (ap is_some there)
      ∙ insert-at ks vs n q (joined (get_or vs n x) x) h l e

  -- a row comes
  pub new-row : (joined : X → X → X) (ks : List K) (vs : List X) (k : K) (x : X) → NoTwoTie R (ks ++ k ∷ [])
      → length vs ≡ length ks
      → insert (map_of {R = R} ks vs) k (also joined (get (map_of {R = R} ks vs) k) x)
      ≡ map_of (ks ++ k ∷ []) (vs ++ x ∷ [])
  new-row joined ks vs k x h l =
      let m : FinMap R X = map_of ks vs in
      let none : get m k ≡ None =
      get-from_entries o (zip ks vs) k ∙ find-apart R o ks vs k (last-apart R o ks k h) in
      ap (λ p. insert m k (also joined p x)) none ∙ insert-new ks vs k x h l

  -- as many keys as rows
  pub len-rows : (ks : List K) (vs : List X) → NoTwoTie R ks → length vs ≡ length ks
      → len (map_of {R = R} ks vs) ≡ length ks
  unfolding IsDistinct
  len-rows [] vs h l = len-empty R X
  len-rows (k ∷ ks) [] h l = absurd (omega (arith, l))
  len-rows (k ∷ ks) (v ∷ vs) h l =
      let m : FinMap R X = map_of ks vs in
      let none : is_some (get m k) ≡ false =
      ap is_some (get-from_entries o (zip ks vs) k ∙ find-apart R o ks vs k h.0) in
      let rest = len-rows ks vs h.1 (omega (arith, l)) in
      let one : len (insert m k v) ≡ len m + 1 =
      len-insert o m k v ∙ ap (λ b. cond b (len m) (len m + 1)) none in
      omega (arith, one, rest)

  -- the value of a row
  pub got-row : (ks : List K) (vs : List X) (n : ℕ) (k q : K) → NoTwoTie R ks → length vs ≡ length ks
      → slice_get ks n ≡ Some q → R k q ≡ Equal → get (map_of {R = R} ks vs) k ≡ slice_get vs n
  got-row ks vs n k q h l e t = get_tied o (map_of ks vs) q k (turned R o k q t) ∙ get-at ks vs n q h l e

  -- no row's
  pub no-row : (ks : List K) (vs : List X) (k : K) → TiesWithNone R k ks
      → get (map_of {R = R} ks vs) k ≡ None
  no-row ks vs k h = get-from_entries o (zip ks vs) k ∙ find-apart R o ks vs k h

  -- ---- the laws

  pub rows-joined : (ks : List K) (vs : List X) → AreRows R ks vs → JoinsAtKeys R ks vs
  rows-joined ks vs h joined n k q x = raised-row joined ks vs n k q x h.apart h.sized

  pub rows-inserted : (ks : List K) (vs : List X) → AreRows R ks vs → InsertsRows R ks vs
  rows-inserted ks vs h k x free = insert-new ks vs k x (apart-push R o ks k h.apart free) h.sized

  pub rows-came : (ks : List K) (vs : List X) → AreRows R ks vs → JoinsRows R ks vs
  rows-came ks vs h joined k x free = new-row joined ks vs k x (apart-push R o ks k h.apart free) h.sized

  pub rows-counted : (ks : List K) (vs : List X) → AreRows R ks vs → CountsRows R ks vs
  rows-counted ks vs h = len-rows ks vs h.apart h.sized

  pub rows-found : (ks : List K) (vs : List X) → AreRows R ks vs → FindsRows R ks vs
  rows-found ks vs h n k q = got-row ks vs n k q h.apart h.sized

  pub rows-no-other : (ks : List K) (vs : List X) → FindsNoOther R ks vs
  rows-no-other ks vs = no-row ks vs
