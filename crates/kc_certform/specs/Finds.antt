-- Where a state is among those that nodes have written so far, this project's own.
use Rattle.std.specs.Prelude.{◌≡◌, ℕ, suc, List, [], ◌∷◌, ◌++◌, length, Some, None}
use Rattle.kc_state.specs.declared.state.AbsState.{AbsState}
use Rattle.kc_cert.specs.declared.certificate.Node.{Node}
use Rattle.kc_certform.specs.CertBytes.{share_of}
use Rattle.kc_certform.specs.Written.{WrittenNodes, IsWritten, IsGap, written_states}
use Rattle.kc_certform.specs.declared.written.Found.{Found}
use Rattle.kc_certform.specs.declared.written.Found.TheVariants.{At, Gap}

-- it is the one with this number, counted from 1; or it isn't there, and belongs at this index of the sorted ones
abbrev pub Finds : List Node → WrittenNodes → AbsState → Found → Type 0
Finds nodes w s (At k) = (i : ℕ) × (k ≡ suc i) × (share_of (written_states nodes w) s ≡ Some i)
Finds nodes w s (Gap g) = (share_of (written_states nodes w) s ≡ None) × IsGap nodes w s g

-- after these nodes came one whose state belongs at this index: its state was written after the others
abbrev pub AddsNext : WrittenNodes → WrittenNodes → ℕ → ℕ → Type 0
AddsNext old new node gap = (nodes : List Node) (n : Node) → IsWritten nodes old → length nodes ≡ node
    → IsGap nodes old n.state gap
    → IsWritten (nodes ++ n ∷ []) new
    × (written_states (nodes ++ n ∷ []) new ≡ written_states nodes old ++ n.state ∷ [])
