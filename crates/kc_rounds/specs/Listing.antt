-- What a search visits in a round: all else demands what it demanded in the round before, which the table has. This
-- project's own.
use Rattle.std.specs.Prelude.{◌≡◌, ◌⊎◌, Bool, true, false, if◌then◌else◌, List, [], ◌++◌, All, Contains, map, flat_map}
use Rattle.std.specs.FinMap as finite
use Rattle.kc_image.specs.Image.{Contents}
use Rattle.kc_regions.specs.Description.{Description}
use Rattle.kc_state.specs.declared.key.Key.{Key}
use Rattle.kc_cert.specs.IterationLimit.{Demand, Table, home_demand, node_demands, placed_nodes}
use Rattle.kc_cert.specs.IterationLimit.{summary_entered, user_demands}
use Rattle.kc_cert.specs.Placed.{Placed, entered_by, events_of}

-- whether the user state is visited, and the contexts and nodes that are
pub record Listing : Type 0 where
  pub user : Bool
  pub contexts : List Key
  pub nodes : List Placed

abbrev pub nothing_listed : Listing
nothing_listed = record { user = false; contexts = []; nodes = [] }

-- what these demand
abbrev pub listed_demands : Contents → Description → Table → Listing → List Demand
listed_demands image d t l =
    (if l.user then user_demands d t.user else []) ++ map (home_demand d) l.contexts
    ++ flat_map (node_demands image d t) l.nodes

-- the node is as it was in the table before, and so is the summary of each context that its events enter
pub record IsAsBefore (image : Contents) (d : Description) (before now : Table) (p : Placed) : Type 0 where
  pub there : Contains (placed_nodes image before) p
  pub summaries : All (λ v.
      summary_entered image before (entered_by d p v) ≡ summary_entered image now (entered_by d p v)) (events_of d p)

-- all that isn't as before is listed, and what is listed is of the table
pub record IsListing (image : Contents) (d : Description) (before now : Table) (l : Listing) : Type 0 where
  pub user : (before.user ≡ now.user) ⊎ (l.user ≡ true)
  pub contexts : All (λ key. Contains (finite.keys before.contexts) key ⊎ Contains l.contexts key)
      (finite.keys now.contexts)
  pub nodes : All (λ p. IsAsBefore image d before now p ⊎ Contains l.nodes p) (placed_nodes image now)
  pub known_contexts : All (Contains (finite.keys now.contexts)) l.contexts
  pub known_nodes : All (Contains (placed_nodes image now)) l.nodes
