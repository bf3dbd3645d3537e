-- Which tables and demands are of values in their ranges: numbers that fit their fields, and keys with a stack that
-- there may be. This project's own.
use Rattle.std.specs.Prelude.{ℕ, ◌<◌, ◌^◌, All, IfSome}
use Rattle.std.specs.FinMap as finite
use Rattle.std.specs.declared.cmp.Ordering.{Ordering}
use Rattle.kc_frames.specs.Clobber.{IsClobber}
use Rattle.kc_image.specs.Image.{Contents}
use Rattle.kc_regions.specs.Description.{Description}
use Rattle.kc_state.specs.State.{IsState}
use Rattle.kc_state.specs.User.{IsUserState}
use Rattle.kc_state.specs.declared.key.Key.{Key}
use Rattle.kc_state.specs.declared.site.Site.{Site}
use Rattle.kc_value.specs.Made.{IsPlace}
use Rattle.kc_cert.specs.IterationLimit.{Demand, ForUser, ForContext, ForClobber, ForNode, Table, demands, table_after}
use Rattle.kc_cert.specs.Conditions.{start_user}

-- such keys are told apart by their numbers
pub record IsKeyValue (key : Key) : Type 0 where
  pub place : IsPlace key.stack
  pub vector : key.vector < 256
  pub base : IfSome key.base (λ b. b < 2 ^ 64)

abbrev pub IsNodePlace : Key × Site → Type 0
IsNodePlace place = IsKeyValue place.0 × (place.1.at < 2 ^ 64)

-- the keys keep P, and each value is valid
pub record IsMap {K X : Type 0} {R : K → K → Ordering} (P : K → Type 0) (valid : X → Type 0) (m : finite.FinMap R X)
    : Type 0 where
  pub keys : All (λ e. P e.0) (finite.entries m)
  pub values : (k : K) → IfSome (finite.get m k) valid

pub record IsTable (t : Table) : Type 0 where
  pub user : IsUserState t.user
  pub contexts : IsMap IsKeyValue IsClobber t.contexts
  pub nodes : IsMap IsNodePlace IsState t.nodes

abbrev pub IsDemand : Demand → Type 0
IsDemand (ForUser u) = IsUserState u
IsDemand (ForContext key) = IsKeyValue key
IsDemand (ForClobber key c) = IsKeyValue key × IsClobber c
IsDemand (ForNode key site s) = IsNodePlace (key, site) × IsState s

-- all that the rounds join is valid
pub record IsRounds (image : Contents) (d : Description) : Type 0 where
  pub start : IsUserState (start_user d)
  pub demands : (n : ℕ) → All IsDemand (demands image d (table_after image d n))
