-- The states that nodes have written so far, this project's own: by the nodes' numbers, and by an order of the states,
-- in which they are found.
use Rattle.std.specs.Prelude.{◌≡◌, ℕ, ◌<◌, ◌≤◌, List, length, map, flat_map, slice_get, slice_index_or, option_to_list, All, Contains}
use Rattle.std.specs.declared.cmp.Ordering.TheVariants.{Less}
use Rattle.kc_state.specs.declared.state.AbsState.{AbsState}
use Rattle.kc_cert.specs.Table.{RisesBy}
use Rattle.kc_cert.specs.declared.certificate.Node.{Node}
use Rattle.kc_certform.specs.Numbers.{state_order}

pub record WrittenNodes : Type 0 where
  -- the numbers of the nodes that wrote a state, in the order of their writing
  pub nodes : List ℕ
  -- indexes of these
  pub sorted : List ℕ

-- the items with these numbers
abbrev pub items_at : {A : Type 0} → List A → List ℕ → List A
items_at items numbers = flat_map (λ k. option_to_list (slice_get items k)) numbers

-- the states in the order of their writing
abbrev pub written_states : List Node → WrittenNodes → List AbsState
written_states nodes w = map (λ n. n.state) (items_at nodes w.nodes)

-- the states by the indexes
abbrev pub sorted_states : List Node → WrittenNodes → List AbsState
sorted_states nodes w = items_at (written_states nodes w) w.sorted

-- these nodes have written different states, and the indexes are those of all of them in the order of states
pub record IsWritten (nodes : List Node) (w : WrittenNodes) : Type 0 where
  pub named : All (λ k. k < length nodes) w.nodes
  pub few : length w.nodes ≤ length nodes
  pub within : All (λ i. i < length w.nodes) w.sorted
  pub each : (i : ℕ) → i < length w.nodes → Contains w.sorted i
  pub rises : RisesBy state_order (sorted_states nodes w)

-- the state belongs before the sorted one with this index, and after those before it
pub record IsGap (nodes : List Node) (w : WrittenNodes) (s : AbsState) (gap : ℕ) : Type 0 where
  pub within : gap ≤ length w.sorted
  pub before : (i : ℕ) (d : AbsState) → i < gap → state_order (slice_index_or (sorted_states nodes w) i d) s ≡ Less
  pub after : (i : ℕ) (d : AbsState) → gap ≤ i → i < length w.sorted
      → state_order s (slice_index_or (sorted_states nodes w) i d) ≡ Less
