-- C2: the form of a table. This project's own.
use Rattle.std.specs.Prelude.{◌≡◌, ℕ, ◌+◌, ◌<◌, ◌≤◌, List, length, drop, map, All, IsSomeAnd, is_some, true}
use Rattle.kc_frames.specs.Floors.{none_live}
use Rattle.kc_frames.specs.declared.floor.Floor.TheVariants.{At}
use Rattle.kc_regions.specs.Description.{Description}
use Rattle.kc_regions.specs.Region.{stacks_of}
use Rattle.kc_value.specs.Value.{value_top}
use Rattle.kc_state.specs.Key.{IsKey}
use Rattle.kc_cert.specs.Placed.{entry_site}
use Rattle.kc_cert.specs.Table.{EachNumbered, RisesBy, node_at, key_order, keys_of, position_of, position_order}
use Rattle.kc_cert.specs.declared.certificate.Certificate.{Certificate}
use Rattle.kc_cert.specs.declared.certificate.Context.{Context}
use Rattle.kc_cert.specs.declared.certificate.Node.{Node}
use Rattle.kc_cert.specs.declared.certificate.TheConstants.{MAX_CONTEXTS, MAX_NODES}

-- the context that the node names is there, and of stacks that the description lacks no byte is live
pub record IsNode (cert : Certificate) (n : Node) : Type 0 where
  pub named : n.context < length cert.contexts
  pub floors : All (λ f. f ≡ At none_live) (drop cert.stacks n.state.floors.at)

-- a context's key keeps the rules of keys, and it has the node of its entry
pub record IsContext (d : Description) (cert : Certificate) (i : ℕ) (c : Context) : Type 0 where
  pub key : IsKey cert.stacks c.key
  pub entry : IsSomeAnd (entry_site d c.key) (λ site. is_some (node_at cert i site) ≡ true)

pub record HasForm (d : Description) (cert : Certificate) : Type 0 where
  pub stacks : cert.stacks ≡ length (stacks_of d.regions)
  -- slots that stand for no word of the TSS or of the description tell nothing
  pub user_slots : All (λ v. v ≡ value_top) (drop (8 + length d.words) cert.user.slots)
  pub few_contexts : length cert.contexts ≤ MAX_CONTEXTS
  pub few_nodes : length cert.nodes ≤ MAX_NODES
  pub keys_rise : RisesBy key_order (keys_of cert)
  pub nodes_rise : RisesBy position_order (map position_of cert.nodes)
  pub nodes : All (IsNode cert) cert.nodes
  pub contexts : EachNumbered (IsContext d cert) cert.contexts
