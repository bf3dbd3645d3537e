-- What a certificate's table has at a site, and the order of its parts. This project's own.
use Rattle.std.specs.Prelude.{◌≡◌, ℕ, ◌<◌, ◌≤◌, Bool, true, false, cond, ◌==◌, List, [], ◌∷◌, map, filter, find, position, Option, Some, None, AllPairs, IfSome, length, slice_get, slice_index_or}
use Rattle.std.specs.Cmp.Lexicographic.{slice_cmp}
use Rattle.std.specs.Ordering.{is_eq, is_lt, nat_cmp}
use Rattle.std.specs.declared.cmp.Ordering.{Ordering}
use Rattle.std.specs.declared.cmp.Ordering.TheVariants.{Less}
use Rattle.kc_state.specs.Key.{key_numbers}
use Rattle.kc_state.specs.State.{state_below}
use Rattle.kc_state.specs.declared.key.Key.{Key}
use Rattle.kc_state.specs.declared.site.Site.{Site}
use Rattle.kc_state.specs.declared.state.AbsState.{AbsState}
use Rattle.kc_cert.specs.declared.certificate.Certificate.{Certificate}
use Rattle.kc_cert.specs.declared.certificate.Context.{Context}
use Rattle.kc_cert.specs.declared.certificate.Node.{Node}

-- each is less than all later ones
abbrev pub RisesBy : {A : Type 0} → (A → A → Ordering) → List A → Type 0
RisesBy order items = AllPairs (λ x y. order x y ≡ Less) items

-- the items before index n are less than p, and those from n on aren't
pub record IsFirstFrom {A : Type 0} (order : A → A → Ordering) (items : List A) (p : A) (n : ℕ) : Type 0 where
  pub within : n ≤ length items
  pub before : (i : ℕ) (d : A) → i < n → is_lt (order (slice_index_or items i d) p) ≡ true
  pub after : (i : ℕ) (d : A) → n ≤ i → i < length items → is_lt (order (slice_index_or items i d) p) ≡ false

-- what holds of each item and its number, counted from 0
abbrev pub EachNumbered : {A : Type 0} → (ℕ → A → Type 0) → List A → Type 0
EachNumbered P items = (i : ℕ) → IfSome (slice_get items i) (P i)

-- ---- nodes by context and site

-- where a node is: the number of its context, and its site
abbrev pub Position : Type 0
Position = ℕ × Site

abbrev pub position_of : Node → Position
position_of n = (n.context, n.site)

-- context, address, and 1 for the body of the handler that is called there
abbrev pub position_numbers : Position → List ℕ
position_numbers (i, site) = i ∷ site.at ∷ cond site.inside 1 0 ∷ []

abbrev pub position_order : Position → Position → Ordering
position_order p q = slice_cmp nat_cmp (position_numbers p) (position_numbers q)

abbrev pub is_at : Position → Node → Bool
is_at p n = is_eq (position_order (position_of n) p)

-- the node of context i at the site
abbrev pub node_at : Certificate → ℕ → Site → Option Node
node_at cert i site = find (is_at (i, site)) cert.nodes

abbrev pub nodes_of : Certificate → ℕ → List Node
nodes_of cert i = filter (λ n. n.context == i) cert.nodes

-- a state is covered by a node whose state is at or above it
abbrev pub is_covered_by : AbsState → Option Node → Bool
is_covered_by s (Some n) = state_below s n.state
is_covered_by s None = false

-- context i has a node at the site whose state is at or above this one
abbrev pub covers : Certificate → ℕ → Site → AbsState → Bool
covers cert i site s = is_covered_by s (node_at cert i site)

-- ---- contexts by key

-- keys are told apart by their numbers, and ordered as lists of them
abbrev pub key_order : Key → Key → Ordering
key_order k l = slice_cmp nat_cmp (key_numbers k) (key_numbers l)

abbrev pub keys_of : Certificate → List Key
keys_of cert = map (λ c. c.key) cert.contexts

-- the number of the context of this key
abbrev pub number_of : Certificate → Key → Option ℕ
number_of cert key = position (λ c. is_eq (key_order c.key key)) cert.contexts
