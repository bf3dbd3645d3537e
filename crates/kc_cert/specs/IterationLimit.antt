-- The iteration limit: in each round a table is joined with all that it demands, from the start until nothing changes.
-- This project's own.
use Rattle.std.specs.Prelude.{◌≡◌, ℕ, zero, suc, Bool, cond, not, ◌&&◌, if◌then◌else◌, List, [], ◌∷◌, ◌++◌, map, filter, filter_map, flat_map, fold, Option, Some, None, option_map, option_to_list, unwrap_or, is_ok}
use Rattle.std.specs.Cmp.Lexicographic.{slice_cmp}
use Rattle.std.specs.FinMap as finite
use Rattle.std.specs.Ordering.{is_eq, nat_cmp}
use Rattle.std.specs.declared.cmp.Ordering.{Ordering}
use Rattle.kc_frames.specs.Clobber.{clobber_joined, nothing_written}
use Rattle.kc_frames.specs.ClobberSets.{ClobberSets}
use Rattle.kc_image.specs.Image.{Contents}
use Rattle.kc_regions.specs.Description.{Description}
use Rattle.kc_space.specs.Latches.{latches_joined}
use Rattle.kc_space.specs.declared.latches.Latches.{Latches}
use Rattle.kc_state.specs.AbsDelivery.{user_entry}
use Rattle.kc_state.specs.AbsEffect.{moment_of}
use Rattle.kc_state.specs.AbsReturn.{returned}
use Rattle.kc_state.specs.Conditions.{is_exact}
use Rattle.kc_state.specs.Key.{key_numbers}
use Rattle.kc_state.specs.Places.{home_stack}
use Rattle.kc_state.specs.State.{state_joined}
use Rattle.kc_state.specs.User.{user_joined}
use Rattle.kc_state.specs.declared.key.Key.{Key}
use Rattle.kc_state.specs.declared.site.Site.{Site}
use Rattle.kc_state.specs.declared.state.AbsState.{AbsState}
use Rattle.kc_state.specs.declared.summary.Summary.{Summary}
use Rattle.kc_state.specs.declared.user.UserState.{UserState}
use Rattle.kc_cert.specs.Code.{insn_at}
use Rattle.kc_cert.specs.Conditions.{is_text, start_user}
use Rattle.kc_cert.specs.FirstRefusal.{insn_conditions}
use Rattle.kc_cert.specs.Placed.{Placed, Successors, entered_by, entry_site, events_of, is_return, latches_after, successors, user_after, user_vectors, with_stack_in, written_by}
use Rattle.kc_cert.specs.Table.{key_order}

-- ---- tables of the rounds

-- a node's place: its context's key, and its site
abbrev pub place_numbers : Key × Site → List ℕ
place_numbers (key, site) = key_numbers key ++ site.at ∷ cond site.inside 1 0 ∷ []

abbrev pub place_order : Key × Site → Key × Site → Ordering
place_order p q = slice_cmp nat_cmp (place_numbers p) (place_numbers q)

-- what is known while the user runs, what each context may write, and what is known at each node
pub record Table : Type 0 where
  pub user : UserState
  pub contexts : finite.FinMap key_order ClobberSets
  pub nodes : finite.FinMap place_order AbsState

-- the node with the instruction at its site, where the image has one
abbrev pub placed_in : Contents → (Key × Site) × AbsState → Option Placed
placed_in image ((key, site), s) =
    option_map (λ x. record { key = key; site = site; state = s; insn = x.0; len = x.1 }) (insn_at image site.at)

abbrev pub placed_nodes : Contents → Table → List Placed
placed_nodes image t = filter_map (placed_in image) (finite.entries t.nodes)

-- ---- summaries

abbrev pub also : {A : Type 0} → (A → A → A) → Option A → A → A
also joined (Some x) y = joined x y
also joined None y = y

-- the nodes of a context at its returns; whether their conditions hold isn't asked
abbrev pub returns_of : Contents → Table → Key → List Placed
returns_of image t key = filter (λ p. is_return p && is_eq (key_order p.key key)) (placed_nodes image t)

-- the latches at the context's returns, joined, if it has one
abbrev pub return_latches : Contents → Table → Key → Option Latches
return_latches image t key =
    fold (λ all p. Some (also latches_joined all (latches_after p))) None (returns_of image t key)

-- the summary of a context that returns
abbrev pub summary_in : Contents → Table → Key → Option Summary
summary_in image t key =
    option_map (λ l. record { clobber = unwrap_or (finite.get t.contexts key) nothing_written; latches = l })
    (return_latches image t key)

-- ---- demands

-- what a table must have: more known while the user runs, a context, more that a context may write, or more at a node
pub data Demand : Type 0 where
  ForUser : UserState → Demand
  ForContext : Key → Demand
  ForClobber : Key → ClobberSets → Demand
  ForNode : Key → Site → AbsState → Demand

-- C14: a context that is entered, with its entry
abbrev pub entry_demands : Description → Option (Key × AbsState) → List Demand
entry_demands d (Some (key, s)) = ForContext key ∷ map (λ site. ForNode key site s) (option_to_list (entry_site d key))
entry_demands d None = []

-- C15 and C16: the state after an event's return, and what its context may write, where it returns
abbrev pub return_demands : Description → Placed → Option Summary → List Demand
return_demands d p (Some summary) =
    ForNode p.key p.site (returned d p.key p.state summary) ∷ ForClobber p.key summary.clobber ∷ []
return_demands d p None = []

abbrev pub summary_entered : Contents → Table → Option (Key × AbsState) → Option Summary
summary_entered image t (Some (key, s)) = summary_in image t key
summary_entered image t None = None

-- an event without a permitted frame demands nothing
abbrev pub event_demands : Contents → Description → Table → Placed → ℕ → List Demand
event_demands image d t p v =
    entry_demands d (entered_by d p v) ++ return_demands d p (summary_entered image t (entered_by d p v))

-- C13
abbrev pub successor_demands : Placed → Successors → List Demand
successor_demands p next = map (λ site. ForNode p.key site next.state) next.sites

-- C17
abbrev pub user_demands_at : Placed → List Demand
user_demands_at p = if is_return p && not p.key.kernel then ForUser (user_after p) ∷ [] else []

-- none of C4 to C12 fails
abbrev pub passes : Description → Placed → Bool
passes d p =
    is_exact (moment_of d p.key p.state 0) p.site.inside && (is_text d p && is_ok (insn_conditions d p))

-- a node at which a condition fails demands nothing
abbrev pub node_demands : Contents → Description → Table → Placed → List Demand
node_demands image d t p =
    if passes d p
    then successor_demands p (successors d p) ++ flat_map (event_demands image d t p) (events_of d p)
    ++ ForClobber p.key (written_by d p) ∷ user_demands_at p
    else []

-- C16: the stack of the context's frame
abbrev pub home_demand : Description → Key → Demand
home_demand d key = ForClobber key (with_stack_in nothing_written (home_stack d key))

-- C14 while the user runs
abbrev pub user_demands : Description → UserState → List Demand
user_demands d u =
    flat_map (λ v. entry_demands d (user_entry d u (Some v))) (user_vectors d u)
    ++ entry_demands d (user_entry d u None)

-- all that is demanded, read from one table
abbrev pub demands : Contents → Description → Table → List Demand
demands image d t =
    user_demands d t.user ++ map (home_demand d) (finite.keys t.contexts)
    ++ flat_map (node_demands image d t) (placed_nodes image t)

-- ---- rounds

-- joined with a demand: what the table lacks is added, a context with nothing written
abbrev pub add : Table → Demand → Table
add t (ForUser u) = record t { user = user_joined t.user u }
add t (ForContext key) = record t {
  contexts = finite.insert t.contexts key (unwrap_or (finite.get t.contexts key) nothing_written);
}
add t (ForClobber key c) = record t {
  contexts = finite.insert t.contexts key (also clobber_joined (finite.get t.contexts key) c);
}
add t (ForNode key site s) = record t {
  nodes = finite.insert t.nodes (key, site) (also state_joined (finite.get t.nodes (key, site)) s);
}

-- the next table: joined with all that this one demands
abbrev pub next_table : Contents → Description → Table → Table
next_table image d t = fold add t (demands image d t)

-- the table after n rounds; the first has the start alone
abbrev pub table_after : Contents → Description → ℕ → Table
table_after image d zero = record { user = start_user d; contexts = finite.empty; nodes = finite.empty }
table_after image d (suc n) = next_table image d (table_after image d n)

-- the table of a round that equals the next one, as all later ones do
abbrev pub IsIterationLimit : Contents → Description → Table → Type 0
IsIterationLimit image d t = (n : ℕ) × (table_after image d n ≡ t) × (next_table image d t ≡ t)
