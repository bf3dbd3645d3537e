-- The order of tables of the rounds, and when a table has what is demanded. This project's own.
use Rattle.std.specs.Prelude.{◌≡◌, ◌≤◌, Bool, true, Option, Some, All, IfSome, IsSome, IsSomeAnd}
use Rattle.std.specs.FinMap as finite
use Rattle.std.specs.declared.cmp.Ordering.{Ordering}
use Rattle.kc_frames.specs.Clobber.{clobber_below}
use Rattle.kc_image.specs.Image.{Contents}
use Rattle.kc_regions.specs.Description.{Description}
use Rattle.kc_state.specs.State.{state_below}
use Rattle.kc_state.specs.User.{user_below}
use Rattle.kc_cert.specs.Conditions.{start_user}
use Rattle.kc_cert.specs.IterationLimit.{Demand, ForUser, ForContext, ForClobber, ForNode, Table, demands}
use Rattle.kc_cert.specs.declared.certificate.TheConstants.{MAX_CONTEXTS, MAX_NODES}

-- what the first has, the second has at or above it
abbrev pub IsPartBelow : {X : Type 0} → (X → X → Bool) → Option X → Option X → Type 0
IsPartBelow below p q = IfSome p (λ x. IsSomeAnd q (λ y. below x y ≡ true))

abbrev pub IsMapBelow : {K X : Type 0} {R : K → K → Ordering} → (X → X → Bool) → finite.FinMap R X
    → finite.FinMap R X → Type 0
IsMapBelow {K} below m n = (k : K) → IsPartBelow below (finite.get m k) (finite.get n k)

-- all that the first table has, the second one has at or above it
pub record IsBelow (t u : Table) : Type 0 where
  pub user : user_below t.user u.user ≡ true
  pub contexts : IsMapBelow clobber_below t.contexts u.contexts
  pub nodes : IsMapBelow state_below t.nodes u.nodes

-- the table has what is demanded
abbrev pub Holds : Table → Demand → Type 0
Holds t (ForUser u) = user_below u t.user ≡ true
Holds t (ForContext key) = IsSome (finite.get t.contexts key)
Holds t (ForClobber key c) = IsPartBelow clobber_below (Some c) (finite.get t.contexts key)
Holds t (ForNode key site s) = IsPartBelow state_below (Some s) (finite.get t.nodes (key, site))

-- the table has the start and all that it demands
pub record IsClosed (image : Contents) (d : Description) (t : Table) : Type 0 where
  pub start : user_below (start_user d) t.user ≡ true
  pub demands : All (Holds t) (demands image d t)

-- the table is within the limits of a certificate
pub record Fits (t : Table) : Type 0 where
  pub contexts : finite.len t.contexts ≤ MAX_CONTEXTS
  pub nodes : finite.len t.nodes ≤ MAX_NODES
