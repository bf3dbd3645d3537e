use Rattle.std.proofs.Common.{◌≡◌, ◌∷◌, ◌++◌, [], ℕ, List, length, ap, sym, ◌∙◌, subst}
use Rattle.std.specs.List.{insert}
use Rattle.kc_certform.specs.Written.{WrittenNodes, IsWritten, written_states}
use Rattle.kc_certform.proofs.AddLemmas.{states-added, added}
use Rattle.kc_certform.proofs.written.Written.add.Goals as goal

-- the number of the node comes last, and its index into its gap
pub returns-clause-added : goal.returns-clause-added
returns-clause-added c = λ nodes n is number gap.
    let w = c.args.self.now in
    let new : WrittenNodes = record { nodes = c.push.new.self.items; sorted = c.insert.new.self.items } in
    let grown : WrittenNodes =
    record { nodes = w.nodes ++ length nodes ∷ []; sorted = insert w.sorted c.args.gap (length w.nodes) } in
    let first : c.push.new.self.items ≡ w.nodes ++ length nodes ∷ [] =
    c.in_ok-push.ensures.items
    ∙ ap (λ (l : List ℕ). l ++ c.args.node ∷ [])
    (c.reserve.ensures.items ∙ ap (λ (v : WrittenNodes). v.nodes) c.self.view_is)
    ∙ ap (λ (k : ℕ). w.nodes ++ k ∷ []) (sym number) in
    let second : c.insert.new.self.items ≡ insert w.sorted c.args.gap (length w.nodes) =
    c.in_ok-insert.ensures.items
    ∙ ap (λ (v : WrittenNodes). insert v.sorted c.args.gap c.len-index.result) c.self.view_is
    ∙ ap (λ (k : ℕ). insert w.sorted c.args.gap k) c.len-index.ensures.len in
    let same : grown ≡ new = λ i. record { nodes = sym first i; sorted = sym second i } in
    let Added : WrittenNodes → Type 0 = λ v.
    IsWritten (nodes ++ n ∷ []) v × (written_states (nodes ++ n ∷ []) v ≡ written_states nodes w ++ n.state ∷ []) in
    subst Added same (added nodes n w c.args.gap is gap, states-added nodes n w c.args.gap is gap)
