-- The shares of a certificate's nodes in version 2, this project's own.
use Rattle.std.specs.Prelude.{ℕ, suc, List, [], ◌∷◌, Option, Some, None}
use Rattle.kc_state.specs.declared.state.AbsState.{AbsState}
use Rattle.kc_cert.specs.declared.certificate.Node.{Node}
use Rattle.kc_certform.specs.CertBytes.{share_of, written_after}

-- the number of the state that is shared, counted from 1, or 0 before a state of its own
abbrev pub share_number : Option ℕ → ℕ
share_number (Some k) = suc k
share_number None = 0

-- the shares of these nodes, after nodes that have written these states
unfoldable pub shares_after : List AbsState → List Node → List ℕ
shares_after written [] = []
shares_after written (n ∷ ns) =
    let share = share_of written n.state in
    share_number share ∷ shares_after (written_after written n.state share) ns

abbrev pub shares_of : List Node → List ℕ
shares_of nodes = shares_after [] nodes
