-- What a search may leave out of a round: demands that the table has, and nodes that demand the same as before.
use Rattle.std.proofs.Common.{◌≡◌, ◌⊎◌, ⊎_elim, List, [], ◌∷◌, ◌++◌, All, Contains, flat_map, fold, get_or, if◌then◌else◌, refl, ap, ◌∙◌}
use Rattle.std.proofs.lemmas.List.Elements.{All-contains, All-head, All-tail}
use Rattle.kc_image.specs.Image.{Contents}
use Rattle.kc_regions.specs.Description.{Description}
use Rattle.kc_cert.specs.IterationLimit.{Demand, ForClobber, Table, add, entry_demands, event_demands, node_demands, passes, return_demands, successor_demands, summary_entered, user_demands_at}
use Rattle.kc_cert.specs.Placed.{Placed, entered_by, events_of, successors, written_by}
use Rattle.kc_limit.specs.Order.{Holds}
use Rattle.kc_limit.specs.Valid.{IsTable, IsDemand}
use Rattle.kc_limit.proofs.TableLemmas.{all-above, all-equal, all-hold, all-table, holds-up}

-- some of the demands lead to the same table as all of them, where the table has the others
pub some-enough : (t : Table) (some all : List Demand) → IsTable t → All IsDemand all → All (Contains all) some
    → All (λ x. Holds t x ⊎ Contains some x) all → fold add t some ≡ fold add t all
some-enough t some all h hx among others =
    all-equal t some all h valid hx
    (λ k x lt. All-contains (Holds (fold add t all)) all _ (all-hold t all h hx) (among k x lt))
    (λ k x lt.
    ⊎_elim
    (λ has. holds-up t (fold add t some) (get_or all k x) h (all-table t some h valid) (hx k x lt) has
    (all-above t some h valid))
    (λ one. All-contains (Holds (fold add t some)) some (get_or all k x) (all-hold t some h valid) one) (others k x lt))
  where
    valid : All IsDemand some
    valid = λ k x lt. All-contains IsDemand all (get_or some k x) hx (among k x lt)

flat-same : {A B : Type 0} (f g : A → List B) (xs : List A) → All (λ x. f x ≡ g x) xs → flat_map f xs ≡ flat_map g xs
flat-same f g [] h = refl
flat-same f g (x ∷ xs) h =
    ap (λ ys. ys ++ flat_map f xs) (All-head (λ y. f y ≡ g y) x xs h)
    ∙ ap (λ ys. g x ++ ys) (flat-same f g xs (All-tail (λ y. f y ≡ g y) x xs h))

-- a node reads of the table only the summaries of the contexts that its events enter
pub same-demands : (image : Contents) (d : Description) (t u : Table) (p : Placed)
    → All (λ v. summary_entered image t (entered_by d p v) ≡ summary_entered image u (entered_by d p v)) (events_of d p)
    → node_demands image d t p ≡ node_demands image d u p
same-demands image d t u p h =
    let events = flat-same (event_demands image d t p) (event_demands image d u p) (events_of d p)
    (λ k v lt. ap (λ s. entry_demands d (entered_by d p (get_or (events_of d p) k v)) ++ return_demands d p s)
    (h k v lt)) in
    ap (λ (events : List Demand).
    if passes d p
    then successor_demands p (successors d p) ++ events ++ ForClobber p.key (written_by d p) ∷ user_demands_at p
    else []) events
