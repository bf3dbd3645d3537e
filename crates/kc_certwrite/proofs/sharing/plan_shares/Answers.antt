use Rattle.std.proofs.Common.{◌≡◌, ◌+◌, ◌++◌, ◌∷◌, [], ℕ, List, take, drop, sym, ap, ◌∙◌, subst, append_assoc, append-nil, arith}
use Rattle.std.proofs.lemmas.Grind.{common_steps}
use Rattle.std.proofs.lemmas.List.{take_more, drop_more}
use Rattle.kc_cert.specs.declared.certificate.Node.{Node}
use Rattle.kc_certform.specs.Written.{IsWritten, written_states}
use Rattle.kc_certwrite.specs.Shares.{shares_after}
use Rattle.kc_certwrite.proofs.ShareLemmas.{shares-more, shares-end}
use Rattle.kc_certwrite.proofs.sharing.plan_shares.Goals as goal

-- the next node has its share
pub loop-i-preserved : goal.loop-i-preserved
loop-i-preserved c =
    let nodes = c.args.nodes.now in
    let i = c.loop-i.i in
    let n = c.index-nodes-i.result in
    let before = take i nodes in
    let w = c.plan_share.new.written in
    let share = c.in_ok-plan_share.field-0 in
    let next = c.in_ok-plan_share.ensures.next in
    let grown : take (i + 1) nodes ≡ before ++ n ∷ [] =
    take_more nodes i n c.loop-i-test.true ∙ ap (λ (m : Node). before ++ m ∷ []) (sym c.index-nodes-i.is) in
    let left : drop i nodes ≡ n ∷ drop (i + 1) nodes =
    drop_more nodes i n c.loop-i-test.true ∙ ap (λ (m : Node). m ∷ drop (i + 1) nodes) (sym c.index-nodes-i.is) in
    record {
      written = subst (λ (l : List Node). IsWritten l w) (sym grown) next.written;
      shares = ap (λ (l : List ℕ). l ++ shares_after (written_states (take (i + 1) nodes) w) (drop (i + 1) nodes))
          c.in_ok-push.ensures.items
          ∙ append_assoc c.loop-i.shares.items (share ∷ [])
          (shares_after (written_states (take (i + 1) nodes) w) (drop (i + 1) nodes))
          ∙ ap (λ (l : List ℕ). c.loop-i.shares.items ++ l)
          (shares-more (written_states before c.loop-i.written) (written_states (take (i + 1) nodes) w) (drop i nodes)
          (drop (i + 1) nodes) n share left next.is
          (ap (λ (l : List Node). written_states l w) grown ∙ next.states))
          ∙ c.loop-i.invariant.shares;
    }

-- no node is left
pub returns : goal.returns
returns c =
    let nodes = c.args.nodes.now in
    let none : drop c.loop-i.i nodes ≡ [] = grind (arith, common_steps, c.loop-i-test.false) in
    record {
      shares = sym (ap (λ (l : List ℕ). c.loop-i.shares.items ++ l)
          (shares-end (written_states (take c.loop-i.i nodes) c.loop-i.written) (drop c.loop-i.i nodes) none)
          ∙ append-nil c.loop-i.shares.items)
          ∙ c.loop-i.invariant.shares;
    }
