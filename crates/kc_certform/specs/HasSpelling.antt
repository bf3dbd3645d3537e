-- Which certificates have a spelling, this project's own.
use Rattle.std.specs.Prelude.{◌≡◌, ◌≤◌, length, drop, map, All}
use Rattle.kc_value.specs.Value.{value_top}
use Rattle.kc_state.specs.Key.{IsKey}
use Rattle.kc_cert.specs.Form.{IsNode}
use Rattle.kc_cert.specs.Table.{RisesBy, key_order, keys_of, position_of, position_order}
use Rattle.kc_cert.specs.declared.certificate.Certificate.{Certificate}
use Rattle.kc_cert.specs.declared.certificate.TheConstants.{MAX_CONTEXTS, MAX_NODES}
use Rattle.kc_certfields.specs.States.{user_slots}

pub record HasSpelling (cert : Certificate) : Type 0 where
  pub stacks : cert.stacks ≤ 16
  -- slots that stand for no word of the TSS or of a description tell nothing
  pub user : All (λ v. v ≡ value_top) (drop user_slots cert.user.slots)
  pub few_contexts : length cert.contexts ≤ MAX_CONTEXTS
  pub few_nodes : length cert.nodes ≤ MAX_NODES
  pub keys : All (IsKey cert.stacks) (keys_of cert)
  pub keys_rise : RisesBy key_order (keys_of cert)
  -- each names a context, and tells nothing of stacks that aren't there
  pub nodes : All (IsNode cert) cert.nodes
  pub nodes_rise : RisesBy position_order (map position_of cert.nodes)
