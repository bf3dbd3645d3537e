-- Single steps of the writer of version 2, this project's own: a node with its share, and what is written after it.
use Rattle.std.specs.Prelude.{◌≡◌, ℕ, cond, ◌==◌, List, [], ◌∷◌, ◌++◌, flat_map}
use Rattle.std.specs.List.{zip}
use Rattle.kc_state.specs.declared.state.AbsState.{AbsState}
use Rattle.kc_cert.specs.declared.certificate.Node.{Node}
use Rattle.kc_certfields.specs.Spelling.{u32_bytes, state_bytes}
use Rattle.kc_certform.specs.CertBytes.{position_bytes, share_of, written_after}
use Rattle.kc_certform.specs.Written.{WrittenNodes, IsWritten, written_states}
use Rattle.kc_certwrite.specs.Shares.{share_number}

-- a share, and after 0 the state
abbrev pub share_text : ℕ → AbsState → ℕ → List ℕ
share_text stacks s share = u32_bytes share ++ cond (share == 0) (state_bytes stacks s) []

abbrev pub shared_node_bytes : ℕ → Node → ℕ → List ℕ
shared_node_bytes stacks n share = position_bytes n ++ share_text stacks n.state share

abbrev pub shared_text : ℕ → Node × ℕ → List ℕ
shared_text stacks p = shared_node_bytes stacks p.0 p.1

-- nodes with their shares
abbrev pub shared_nodes_bytes : ℕ → List Node → List ℕ → List ℕ
shared_nodes_bytes stacks nodes shares = flat_map (shared_text stacks) (zip nodes shares)

-- the share of the node after these, and the states that are written then
pub record PlansNext (before : List Node) (n : Node) (old new : WrittenNodes) (share : ℕ) : Type 0 where
  pub is : share ≡ share_number (share_of (written_states before old) n.state)
  pub written : IsWritten (before ++ n ∷ []) new
  pub states : written_states (before ++ n ∷ []) new
      ≡ written_after (written_states before old) n.state (share_of (written_states before old) n.state)
