-- Where the program goes on from a node, told by the kind of successor. This project's own.
use Rattle.std.specs.Prelude.{◌≡◌, ◌≢◌, List, [], Result, Ok, Err}
use Rattle.kc_regions.specs.Description.{Description}
use Rattle.kc_state.specs.declared.condition.Condition.{Condition}
use Rattle.kc_state.specs.declared.site.Site.{Site}
use Rattle.kc_state.specs.declared.state.AbsState.{AbsState}
use Rattle.kc_state.specs.declared.succ.Succ.{Succ}
use Rattle.kc_cert.specs.FirstRefusal.{insn_conditions}
use Rattle.kc_cert.specs.Placed.{Placed, Successors, sites_after, successors}

-- the successors are at these sites, and at each of them s is known
pub record AreKnown (next : Successors) (at : List Site) (s : AbsState) : Type 0 where
  pub sites : at ≡ next.sites
  pub state : at ≢ [] → s ≡ next.state

-- C6 to C12 hold, and the program goes on with s known at each successor; or the first of them fails
abbrev pub GoesOn : Description → Placed → Result Succ Condition → AbsState → Type 0
GoesOn d p (Ok succ) s = (insn_conditions d p ≡ Ok tt) × AreKnown (successors d p) (sites_after p succ) s
GoesOn d p (Err k) s = insn_conditions d p ≡ Err k
