-- A round that visits what is listed. Each demand of the table is one that the table before had, which the round
-- joined into it, or one of what is listed; by the law of demands that are left out the two joins are equal.
use Rattle.std.proofs.Common.{◌≡◌, ◌⊎◌, inl, inr, ◌<◌, Bool, true, false, if◌then◌else◌, List, [], ◌∷◌, ◌++◌, All}
use Rattle.std.proofs.Common.{Contains, map, flat_map, fold, get_or, length, sym, ap, subst, ◌∙◌, arith}
use Rattle.std.proofs.lemmas.List.{length-map}
use Rattle.std.proofs.Math.ListN.{get_or-map}
use Rattle.std.proofs.lemmas.List.Elements.{All-append, All-contains, All-cons, All-head, All-map, All-nil, All-tail}
use Rattle.std.proofs.lemmas.List.Elements.{All-contains_itself, All-weaker}
use Rattle.std.proofs.lemmas.List.Elements.{Contains-append_left, Contains-append_right, Contains-get_or}
use Rattle.std.specs.FinMap as finite
use Rattle.kc_image.specs.Image.{Contents}
use Rattle.kc_regions.specs.Description.{Description}
use Rattle.kc_state.specs.declared.key.Key.{Key}
use Rattle.kc_cert.specs.Placed.{Placed}
use Rattle.kc_cert.specs.IterationLimit.{Demand, Table, add, demands, home_demand, next_table, node_demands}
use Rattle.kc_cert.specs.IterationLimit.{placed_nodes, user_demands}
use Rattle.kc_limit.specs.Order.{Holds}
use Rattle.kc_limit.specs.Valid.{IsTable, IsDemand}
use Rattle.kc_limit.proofs.RoundLemmas.{same-demands, some-enough}
use Rattle.kc_limit.proofs.TableLemmas.{all-hold, all-table}
use Rattle.kc_rounds.specs.Listing.{Listing, IsAsBefore, IsListing, listed_demands, nothing_listed}

-- each of the first list's is one of the second's
All-in : {X : Type 0} (P : X → Type 0) (xs ys : List X) → All (Contains ys) xs → All P ys → All P xs
All-in P xs ys among h k d lt = All-contains P ys (get_or xs k d) h (among k d lt)

first-in : {X : Type 0} (xs ys : List X) → All (Contains (xs ++ ys)) xs
first-in xs ys k d lt = Contains-append_left xs ys (get_or xs k d) (Contains-get_or xs k d lt)

last-in : {X : Type 0} (xs ys : List X) → All (Contains (xs ++ ys)) ys
last-in xs ys k d lt = Contains-append_right xs ys (get_or ys k d) (Contains-get_or ys k d lt)

in-trans : {X : Type 0} (xs ys zs : List X) → All (Contains ys) xs → All (Contains zs) ys → All (Contains zs) xs
in-trans xs ys zs h k = All-in (Contains zs) xs ys h k

in-append : {X : Type 0} (xs ys zs ws : List X) → All (Contains zs) xs → All (Contains ws) ys
    → All (Contains (zs ++ ws)) (xs ++ ys)
in-append xs ys zs ws h k =
    All-append (Contains (zs ++ ws)) xs ys (in-trans xs zs (zs ++ ws) h (first-in zs ws))
    (in-trans ys ws (zs ++ ws) k (last-in zs ws))

Contains-map : {A B : Type 0} (f : A → B) (xs : List A) (x : A) → Contains xs x → Contains (map f xs) (f x)
Contains-map f xs x h =
    let lt : h.0 < length (map f xs) = omega (arith, h.1, length-map xs f) in
    (h.0, lt, get_or-map f xs h.0 x ∙ ap f h.2)

flat-contains : {A B : Type 0} (f : A → List B) (xs : List A) → All (λ x. All (Contains (flat_map f xs)) (f x)) xs
flat-contains f [] = All-nil (λ x. All (Contains (flat_map f [])) (f x))
flat-contains f (x ∷ xs) =
    let all = flat_map f (x ∷ xs) in
    All-cons (λ y. All (Contains all) (f y)) x xs (first-in (f x) (flat_map f xs))
    (All-weaker (λ y. All (Contains (flat_map f xs)) (f y)) (λ y. All (Contains all) (f y))
    (λ y h. in-trans (f y) (flat_map f xs) all h (last-in (f x) (flat_map f xs))) xs (flat-contains f xs))

All-flat : {A B : Type 0} (P : B → Type 0) (f : A → List B) (xs : List A) → All (λ x. All P (f x)) xs
    → All P (flat_map f xs)
All-flat P f [] h = All-nil P
All-flat P f (x ∷ xs) h =
    All-append P (f x) (flat_map f xs) (All-head (λ y. All P (f y)) x xs h)
    (All-flat P f xs (All-tail (λ y. All P (f y)) x xs h))

map-in : {A B : Type 0} (f : A → B) (xs ys : List A) → All (Contains ys) xs → All (Contains (map f ys)) (map f xs)
map-in f xs ys h =
    All-map (Contains (map f ys)) f xs
    (All-weaker (Contains ys) (λ x. Contains (map f ys) (f x)) (λ x there. Contains-map f ys x there) xs h)

flat-in : {A B : Type 0} (f : A → List B) (xs ys : List A) → All (Contains ys) xs
    → All (Contains (flat_map f ys)) (flat_map f xs)
flat-in f xs ys h =
    All-flat (Contains (flat_map f ys)) f xs
    (All-in (λ x. All (Contains (flat_map f ys)) (f x)) xs ys h (flat-contains f ys))

-- to the left or to the right, throughout a list
lefts : {X : Type 0} (P Q : X → Type 0) (xs : List X) → All P xs → All (λ x. P x ⊎ Q x) xs
lefts P Q xs h k d lt = inl (h k d lt)

rights : {X : Type 0} (P Q : X → Type 0) (xs : List X) → All Q xs → All (λ x. P x ⊎ Q x) xs
rights P Q xs h k d lt = inr (h k d lt)

module _ (image : Contents) (d : Description) (t u : Table) (l : Listing) where
  abbrev some : List Demand
  some = listed_demands image d u l

  -- a demand that the table has, or of what is listed
  abbrev Met : Demand → Type 0
  Met x = Holds u x ⊎ Contains some x

  abbrev mine : List Demand
  mine = if l.user then user_demands d u.user else []

  abbrev homes : List Demand
  homes = map (home_demand d) l.contexts

  abbrev visits : List Demand
  visits = flat_map (node_demands image d u) l.nodes

  abbrev old_homes : List Demand
  old_homes = map (home_demand d) (finite.keys t.contexts)

  abbrev old_visits : List Demand
  old_visits = flat_map (node_demands image d t) (placed_nodes image t)

  user-met : All (Holds u) (user_demands d t.user) → (t.user ≡ u.user) ⊎ (l.user ≡ true)
      → All Met (user_demands d u.user)
  user-met held (inl same) =
      lefts (Holds u) (Contains some) (user_demands d u.user)
      (subst (λ s. All (Holds u) (user_demands d s)) same held)
  user-met held (inr listed) =
      rights (Holds u) (Contains some) (user_demands d u.user)
      (in-trans (user_demands d u.user) mine some
      (subst (λ b. All (Contains (if b then user_demands d u.user else [])) (user_demands d u.user)) (sym listed)
      (All-contains_itself (user_demands d u.user)))
      (in-trans mine (mine ++ homes) some (first-in mine homes) (first-in (mine ++ homes) visits)))

  home-met : All (Holds u) old_homes
      → All (λ key. Contains (finite.keys t.contexts) key ⊎ Contains l.contexts key) (finite.keys u.contexts)
      → All Met (map (home_demand d) (finite.keys u.contexts))
  home-met held h =
      All-map Met (home_demand d) (finite.keys u.contexts)
      (All-weaker (λ key. Contains (finite.keys t.contexts) key ⊎ Contains l.contexts key)
      (λ key. Met (home_demand d key)) one (finite.keys u.contexts) h)
    where
      one : (key : Key) → Contains (finite.keys t.contexts) key ⊎ Contains l.contexts key → Met (home_demand d key)
      one key (inl there) =
          inl (All-contains (Holds u) old_homes (home_demand d key) held
          (Contains-map (home_demand d) (finite.keys t.contexts) key there))
      one key (inr listed) =
          inr (Contains-append_left (mine ++ homes) visits (home_demand d key)
          (Contains-append_right mine homes (home_demand d key) (Contains-map (home_demand d) l.contexts key listed)))

  node-met : All (Holds u) old_visits
      → All (λ p. IsAsBefore image d t u p ⊎ Contains l.nodes p) (placed_nodes image u)
      → All Met (flat_map (node_demands image d u) (placed_nodes image u))
  node-met held h =
      All-flat Met (node_demands image d u) (placed_nodes image u)
      (All-weaker (λ p. IsAsBefore image d t u p ⊎ Contains l.nodes p) (λ p. All Met (node_demands image d u p))
      one (placed_nodes image u) h)
    where
      one : (p : Placed) → IsAsBefore image d t u p ⊎ Contains l.nodes p → All Met (node_demands image d u p)
      one p (inl before) =
          lefts (Holds u) (Contains some) (node_demands image d u p)
          (subst (All (Holds u)) (same-demands image d t u p before.summaries)
          (All-in (Holds u) (node_demands image d t p) old_visits
          (All-contains (λ q. All (Contains old_visits) (node_demands image d t q)) (placed_nodes image t) p
          (flat-contains (node_demands image d t) (placed_nodes image t)) before.there)
          held))
      one p (inr listed) =
          rights (Holds u) (Contains some) (node_demands image d u p)
          (in-trans (node_demands image d u p) visits some
          (All-contains (λ q. All (Contains visits) (node_demands image d u q)) l.nodes p
          (flat-contains (node_demands image d u) l.nodes) listed)
          (last-in (mine ++ homes) visits))

  -- what is listed is of the table
  some-among : IsListing image d t u l → All (Contains (demands image d u)) some
  some-among h =
      in-append (mine ++ homes) visits (user_demands d u.user ++ map (home_demand d) (finite.keys u.contexts))
      (flat_map (node_demands image d u) (placed_nodes image u))
      (in-append mine homes (user_demands d u.user) (map (home_demand d) (finite.keys u.contexts))
      (mine-among l.user)
      (map-in (home_demand d) l.contexts (finite.keys u.contexts) h.known_contexts))
      (flat-in (node_demands image d u) l.nodes (placed_nodes image u) h.known_nodes)
    where
      mine-among : (b : Bool) → All (Contains (user_demands d u.user)) (if b then user_demands d u.user else [])
      mine-among true = All-contains_itself (user_demands d u.user)
      mine-among false = All-nil (Contains (user_demands d u.user))

  pub listed-next : IsTable t → All IsDemand (demands image d t) → All IsDemand (demands image d u)
      → next_table image d t ≡ u → IsListing image d t u l → fold add u some ≡ next_table image d u
  listed-next table asked valid next h =
      let before = user_demands d t.user in
      let entered = before ++ old_homes in
      let held : All (Holds u) (entered ++ old_visits) =
      subst (λ v. All (Holds v) (demands image d t)) next (all-hold t (demands image d t) table asked) in
      let first = All-in (Holds u) entered (entered ++ old_visits) (first-in entered old_visits) held in
      let user = user-met (All-in (Holds u) before entered (first-in before old_homes) first) h.user in
      let home = home-met (All-in (Holds u) old_homes entered (last-in before old_homes) first) h.contexts in
      let node =
      node-met (All-in (Holds u) old_visits (entered ++ old_visits) (last-in entered old_visits) held) h.nodes in
      some-enough u some (demands image d u)
      (subst IsTable next (all-table t (demands image d t) table asked)) valid (some-among h)
      (All-append Met (user_demands d u.user ++ map (home_demand d) (finite.keys u.contexts))
      (flat_map (node_demands image d u) (placed_nodes image u))
      (All-append Met (user_demands d u.user) (map (home_demand d) (finite.keys u.contexts)) user home) node)

pub nothing-last : (image : Contents) (d : Description) (t u : Table) → IsTable t → All IsDemand (demands image d t)
    → All IsDemand (demands image d u) → next_table image d t ≡ u → IsListing image d t u nothing_listed
    → next_table image d u ≡ u
nothing-last image d t u table asked valid next h =
    sym (listed-next image d t u nothing_listed table asked valid next h)
