-- The bytes of nodes in version 2 are those of the nodes with their shares, by induction on the nodes; and a node more
-- has its share after those before it.
use Rattle.std.proofs.Common.{◌≡◌, ℕ, suc, ◌<◌, List, [], ◌∷◌, ◌++◌, length, get_or, refl, sym, ap, ◌∙◌, append_assoc, append-nil, Bool, cond, arith}
use Rattle.std.proofs.lemmas.Bool.{ne_eqb}
use Rattle.kc_certfields.specs.Spelling.{u32_bytes, state_bytes}
use Rattle.std.specs.Prelude.{Option, Some, None}
use Rattle.std.specs.List.{zip}
use Rattle.std.proofs.lemmas.Slice.Zip.{get_or-zip}
use Rattle.kc_state.specs.declared.state.AbsState.{AbsState}
use Rattle.kc_cert.specs.declared.certificate.Node.{Node}
use Rattle.kc_certform.specs.CertBytes.{position_bytes, share_of, share_bytes, shared_bytes, written_after}
use Rattle.kc_certwrite.specs.Shares.{share_number, shares_after}
use Rattle.kc_certwrite.specs.ShareSteps.{share_text, shared_nodes_bytes}

share-same : (stacks : ℕ) (s : AbsState) (share : Option ℕ)
    → share_text stacks s (share_number share) ≡ share_bytes stacks s share
share-same stacks s (Some k) =
    ap (λ (b : Bool). u32_bytes (suc k) ++ cond b (state_bytes stacks s) []) (ne_eqb (suc k) 0 (λ e. omega (arith, e)))
    ∙ append-nil (u32_bytes (suc k))
share-same stacks s None = refl

pub shares-spell : (stacks : ℕ) (written : List AbsState) (nodes : List Node)
    → shared_nodes_bytes stacks nodes (shares_after written nodes) ≡ shared_bytes stacks written nodes
unfolding shares_after shared_bytes
shares-spell stacks written [] = refl
shares-spell stacks written (n ∷ ns) =
    let share = share_of written n.state in
    let more = shares_after (written_after written n.state share) ns in
    append_assoc (position_bytes n) (share_text stacks n.state (share_number share)) (shared_nodes_bytes stacks ns more)
    ∙ ap (λ (t : List ℕ). position_bytes n ++ (t ++ shared_nodes_bytes stacks ns more))
    (share-same stacks n.state share)
    ∙ ap (λ (t : List ℕ). position_bytes n ++ (share_bytes stacks n.state share ++ t))
    (shares-spell stacks (written_after written n.state share) ns)

pub shares-long : (written : List AbsState) (nodes : List Node) → length (shares_after written nodes) ≡ length nodes
unfolding shares_after
shares-long written [] = refl
shares-long written (n ∷ ns) = ap suc (shares-long (written_after written n.state (share_of written n.state)) ns)

-- no node is left
pub shares-end : (written : List AbsState) (nodes : List Node) → nodes ≡ [] → shares_after written nodes ≡ []
unfolding shares_after
shares-end written nodes e = rw e refl

-- the next node, its share, and those that are left
pub shares-more : (written now : List AbsState) (nodes rest : List Node) (n : Node) (share : ℕ) → nodes ≡ n ∷ rest
    → share ≡ share_number (share_of written n.state) → now ≡ written_after written n.state (share_of written n.state)
    → share ∷ shares_after now rest ≡ shares_after written nodes
unfolding shares_after
shares-more written now nodes rest n share e is after = rw (e, is, after) refl

-- a node and its share side by side
pub pair-at : (nodes : List Node) (shares : List ℕ) (i : ℕ) (n : Node) (k : ℕ) → i < length nodes → i < length shares
    → n ≡ get_or nodes i n → k ≡ get_or shares i k → (n, k) ≡ get_or (zip nodes shares) i (n, k)
pair-at nodes shares i n k a b en ek =
    (λ j. (en j, ek j)) ∙ sym (get_or-zip nodes shares i (n, k) a b)
