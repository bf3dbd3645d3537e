-- Reading a certificate from left to right with its first fault, this project's own. Fields are tested in their order;
-- a record is tested against the one before it as soon as its key, position or index is read.
use Rattle.std.specs.Prelude.{ℕ, suc, ◌-◌, Bool, true, false, not, ◌==◌, ◌||◌, nat_lt, if◌then◌else◌, List, [], ◌∷◌, ◌++◌, length, is_none, is_some, slice_get, Option, Some, None, Result, Ok, Err}
use Rattle.std.specs.Ordering.{is_lt}
use Rattle.kc_rules.specs.Rules.{◌>>=◌, refuse}
use Rattle.kc_state.specs.declared.key.Key.{Key}
use Rattle.kc_state.specs.declared.site.Site.{Site}
use Rattle.kc_state.specs.declared.state.AbsState.{AbsState}
use Rattle.kc_cert.specs.Table.{Position, key_order, position_of, position_order}
use Rattle.kc_cert.specs.declared.certificate.Certificate.{Certificate}
use Rattle.kc_cert.specs.declared.certificate.Context.{Context}
use Rattle.kc_cert.specs.declared.certificate.Node.{Node}
use Rattle.kc_cert.specs.declared.certificate.TheConstants.{MAX_CONTEXTS, MAX_NODES}
use Rattle.kc_certfields.specs.Fault.{fault}
use Rattle.kc_certfields.specs.declared.fault.CertFault.{CertFault}
use Rattle.kc_certfields.specs.declared.fault.CertKind.TheVariants.{BadMagic, Version, Trailing, Order, TooMany}
use Rattle.kc_certfields.specs.Rest.{Rest}
use Rattle.kc_certfields.specs.Reads.{Reading, in_range, one_of, times}
use Rattle.kc_certfields.specs.Numbers.{bytes_at, u8_at, u32_at, u64_at}
use Rattle.kc_certfields.specs.States.{state_at, user_at}
use Rattle.kc_certfields.specs.Keys.{bit_at, key_at, summary_at}
use Rattle.kc_certform.specs.CertBytes.{magic, share_of}
use Rattle.kc_certfmt.specs.declared.head.Head.{Head}

abbrev pub last_of : {A : Type 0} → List A → Option A
last_of items = slice_get items (length items - 1)

-- ---- what stands before the contexts

-- these bytes
unfoldable pub magic_at : List ℕ → Reading (Unit {0})
magic_at [] i = Ok (tt, i)
magic_at (m ∷ ms) i = do
  b ← u8_at i
  _ ← refuse (not (b.0 == m)) (fault BadMagic i.at)
  magic_at ms b.1

unfoldable pub version_at : Reading ℕ
version_at i = do
  n ← u32_at i
  _ ← refuse (not (n.0 == 1 || n.0 == 2)) (fault Version i.at)
  Ok n

unfoldable pub stacks_at : Reading ℕ
stacks_at i = do
  n ← u8_at i
  _ ← refuse (nat_lt 16 n.0) (fault TooMany i.at)
  Ok n

unfoldable pub count_at : ℕ → Reading ℕ
count_at limit i = do
  n ← u32_at i
  _ ← refuse (nat_lt limit n.0) (fault TooMany i.at)
  Ok n

unfoldable pub head_at : Reading Head
head_at i = do
  start ← magic_at magic i
  version ← version_at start.1
  image ← bytes_at 32 version.1
  config ← bytes_at 32 image.1
  stacks ← stacks_at config.1
  user ← user_at stacks.1
  Ok (
    record {
      version = version.0;
      digests = record { image = image.0; config = config.0 };
      stacks = stacks.0;
      user = user.0;
    },
    user.1,
  )

-- ---- contexts

-- the key is above that of the last context
abbrev pub key_rises : Option Context → Key → Bool
key_rises None key = true
key_rises (Some before) key = is_lt (key_order before.key key)

-- the context after these
unfoldable pub context_at : ℕ → List Context → Reading Context
context_at stacks before i = do
  key ← key_at stacks i
  _ ← refuse (not (key_rises (last_of before) key.0)) (fault Order i.at)
  summary ← summary_at key.1
  Ok (record { key = key.0; summary = summary.0 }, summary.1)

abbrev pub next_context : ℕ → List Context → Reading (List Context)
next_context stacks before i = do
  c ← context_at stacks before i
  Ok (before ++ c.0 ∷ [], c.1)

-- ---- nodes

-- the nodes so far, and the states that they wrote
pub record Nodes : Type 0 where
  pub nodes : List Node
  pub written : List AbsState

abbrev pub position_rises : Option Node → Position → Bool
position_rises None p = true
position_rises (Some before) p = is_lt (position_order (position_of before) p)

-- a position above that of the last node, with one of so many contexts
unfoldable pub position_at : ℕ → List Node → Reading Position
position_at contexts before i = do
  context ← u32_at i
  _ ← in_range (nat_lt context.0 contexts) i.at
  address ← u64_at context.1
  inside ← bit_at address.1
  _ ← refuse (not (position_rises (last_of before) (context.0, record { at = address.0; inside = inside.0 })))
      (fault Order i.at)
  Ok ((context.0, record { at = address.0; inside = inside.0 }), inside.1)

-- a state, and whether it was written here
abbrev pub StateRead : Type 0
StateRead = AbsState × Bool

unfoldable pub plain_state_at : ℕ → Reading StateRead
plain_state_at stacks i = do
  s ← state_at stacks i
  Ok ((s.0, false), s.1)

-- a state that wasn't written before
unfoldable pub new_state_at : ℕ → List AbsState → Reading StateRead
new_state_at stacks written i = do
  s ← state_at stacks i
  _ ← refuse (is_some (share_of written s.0)) (fault Order i.at)
  Ok ((s.0, true), s.1)

-- the state with this number among those written, where it is named at this offset
abbrev pub shared_state : List AbsState → ℕ → ℕ → Reading StateRead
shared_state written at share i = do
  s ← one_of (slice_get written (share - 1)) at
  Ok ((s, false), i)

-- what follows the share, which is at this offset
abbrev pub state_after : ℕ → List AbsState → ℕ → ℕ → Reading StateRead
state_after stacks written at share i =
    if share == 0 then new_state_at stacks written i else shared_state written at share i

-- a share: 0 before a state, or the number of a state that was written before, counted from 1
unfoldable pub shared_state_at : ℕ → List AbsState → Reading StateRead
shared_state_at stacks written i = do
  share ← u32_at i
  state_after stacks written i.at share.0 share.1

abbrev pub node_state_at : Head → List AbsState → Reading StateRead
node_state_at head written i =
    if head.version == 1 then plain_state_at head.stacks i else shared_state_at head.stacks written i

-- the states written after a node with this one
abbrev pub with_written : List AbsState → StateRead → List AbsState
with_written written s = if s.1 then written ++ s.0 ∷ [] else written

-- the nodes after one at this position with this state
abbrev pub with_node : Nodes → Position → StateRead → Nodes
with_node before p s = record {
  nodes = before.nodes ++ record { context = p.0; site = p.1; state = s.0 } ∷ [];
  written = with_written before.written s;
}

-- the node at this position, with the state that is read
abbrev pub node_with : Nodes → Position → Reading StateRead → Reading Nodes
node_with before p read i = do
  s ← read i
  Ok (with_node before p s.0, s.1)

abbrev pub next_node : Head → ℕ → Nodes → Reading Nodes
next_node head contexts before i = do
  p ← position_at contexts before.nodes i
  node_with before p.0 (node_state_at head before.written) p.1

-- ---- the whole

abbrev pub certificate : Head → List Context → List Node → Certificate
certificate head contexts nodes = record {
  digests = head.digests;
  user = head.user;
  stacks = head.stacks;
  contexts = contexts;
  nodes = nodes;
}

abbrev pub is_empty : List ℕ → Bool
is_empty [] = true
is_empty (b ∷ bs) = false

-- nothing follows the last node
abbrev pub whole : Head → List Context → Nodes → Rest → Result Certificate CertFault
whole head contexts nodes i = do
  _ ← refuse (not (is_empty i.bytes)) (fault Trailing i.at)
  Ok (certificate head contexts nodes.nodes)

-- the rest of a certificate, where n nodes are left
unfoldable pub from_nodes : Head → List Context → ℕ → Nodes → Rest → Result Certificate CertFault
from_nodes head contexts n before i = do
  nodes ← times (next_node head (length contexts)) n before i
  whole head contexts nodes.0 nodes.1

-- from the count of nodes on
unfoldable pub from_count : Head → List Context → Rest → Result Certificate CertFault
from_count head contexts i = do
  n ← count_at MAX_NODES i
  from_nodes head contexts n.0 (record { nodes = []; written = [] }) n.1

-- where n contexts are left
unfoldable pub from_contexts : Head → ℕ → List Context → Rest → Result Certificate CertFault
from_contexts head n before i = do
  contexts ← times (next_context head.stacks) n before i
  from_count head contexts.0 contexts.1

-- from the first byte on
unfoldable pub from_start : Rest → Result Certificate CertFault
from_start i = do
  head ← head_at i
  n ← count_at MAX_CONTEXTS head.1
  from_contexts head.0 n.0 [] n.1

-- what the bytes of a whole file give: the certificate that they spell in either version, or their first fault
abbrev pub cert_at : List ℕ → Result Certificate CertFault
cert_at bytes = from_start (record { at = 0; bytes = bytes })
