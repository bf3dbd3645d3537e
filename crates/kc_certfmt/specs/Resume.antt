-- Reading a certificate part by part, this project's own: what a reader that is fed in pieces has read, and what the rest
-- gives.
use Rattle.std.specs.Prelude.{ℕ, zero, suc, ◌+◌, ◌≤◌, Bool, true, false, ◌&&◌, List, [], length, Option, Some, None, Result, Ok, Err}
use Rattle.kc_rules.specs.Rules.{◌>>=◌}
use Rattle.kc_cert.specs.declared.certificate.Certificate.{Certificate}
use Rattle.kc_cert.specs.declared.certificate.Context.{Context}
use Rattle.kc_cert.specs.declared.certificate.Node.{Node}
use Rattle.kc_cert.specs.declared.certificate.TheConstants.{MAX_CONTEXTS, MAX_NODES}
use Rattle.kc_certfields.specs.declared.fault.CertFault.{CertFault}
use Rattle.kc_certfields.specs.declared.fault.CertKind.TheVariants.{Trailing}
use Rattle.kc_certfields.specs.Fault.{fault}
use Rattle.kc_certfields.specs.Rest.{Rest}
use Rattle.kc_certfields.specs.Reads.{Reading}
use Rattle.kc_certfmt.specs.Reading.{Nodes, count_at, is_empty, head_at, next_context, next_node, from_start, from_contexts, from_nodes}
use Rattle.kc_certfmt.specs.declared.head.Head.{Head}
use Rattle.kc_certfmt.specs.declared.table.Left.{Left}
use Rattle.kc_certfmt.specs.declared.table.Left.TheVariants as left

-- the part of a certificate that was read, from the count of contexts on, and what is left
pub record Part : Type 0 where
  pub head : Head
  pub contexts : List Context
  pub left : Left

-- ---- a part more

-- what stands before the contexts, and their count
unfoldable pub start_at : Reading Part
start_at i = do
  head ← head_at i
  n ← count_at MAX_CONTEXTS head.1
  Ok (record { head = head.0; contexts = []; left = left.Contexts n.0 }, n.1)

-- a context, after which so many are left
unfoldable pub context_more : Part → ℕ → Reading Part
context_more p n i = do
  contexts ← next_context p.head.stacks p.contexts i
  Ok (record p { contexts = contexts.0; left = left.Contexts n }, contexts.1)

unfoldable pub node_count_more : Part → Reading Part
node_count_more p i = do
  n ← count_at MAX_NODES i
  Ok (record p { left = left.Nodes (record { nodes = []; written = [] }) n.0 }, n.1)

-- a node after these, after which so many are left
unfoldable pub node_more : Part → Nodes → ℕ → Reading Part
node_more p before n i = do
  nodes ← next_node p.head (length p.contexts) before i
  Ok (record p { left = left.Nodes nodes.0 n }, nodes.1)

abbrev pub after_part : Part → Left → Reading Part
after_part p (left.Contexts (suc n)) i = context_more p n i
after_part p (left.Contexts zero) i = node_count_more p i
after_part p (left.Nodes nodes (suc n)) i = node_more p nodes n i
after_part p (left.Nodes nodes zero) i = Err (fault Trailing i.at)

-- the next context, the count of nodes, or the next node
abbrev pub more_at : Part → Reading Part
more_at p i = after_part p p.left i

-- the first part, or the next one
abbrev pub part_at : Option Part → Reading Part
part_at None i = start_at i
part_at (Some p) i = more_at p i

-- ---- the rest

abbrev pub from_left : Part → Left → Rest → Result Certificate CertFault
from_left p (left.Contexts n) i = from_contexts p.head n p.contexts i
from_left p (left.Nodes nodes n) i = from_nodes p.head p.contexts n nodes i

-- what the rest of a certificate gives, after the part that was read
abbrev pub resume : Option Part → Rest → Result Certificate CertFault
resume None i = from_start i
resume (Some p) i = from_left p p.left i

-- no context and no node is left
abbrev pub is_whole : Left → Bool
is_whole (left.Contexts n) = false
is_whole (left.Nodes nodes zero) = true
is_whole (left.Nodes nodes (suc n)) = false

-- the certificate was read, and its bytes to their end
abbrev pub is_done : Option Part → Rest → Bool
is_done None i = false
is_done (Some p) i = is_whole p.left && is_empty i.bytes

abbrev pub nodes_in : Left → List Node
nodes_in (left.Contexts n) = []
nodes_in (left.Nodes nodes n) = nodes.nodes

-- no more than the most contexts and nodes are read
abbrev pub HasFew : List Context → Left → Type 0
HasFew contexts (left.Contexts n) = length contexts + n ≤ MAX_CONTEXTS
HasFew contexts (left.Nodes nodes n) = (length contexts ≤ MAX_CONTEXTS) × (length nodes.nodes + n ≤ MAX_NODES)

pub record IsTable (head : Head) (contexts : List Context) (l : Left) : Type 0 where
  pub stacks : head.stacks ≤ 16
  pub few : HasFew contexts l
