use Rattle.std.proofs.Common.{◌≡◌, get_or, ap, ◌∙◌}
use Rattle.std.specs.Cmp.Lexicographic.{slice_cmp}
use Rattle.std.specs.Ordering.{nat_cmp}
use Rattle.kc_state.specs.declared.state.AbsState.{AbsState}
use Rattle.kc_certform.specs.Numbers.{state_numbers}
use Rattle.kc_certform.specs.Written.{WrittenNodes}
use Rattle.kc_certform.proofs.FindLemmas.{state-at}
use Rattle.kc_certform.proofs.written.Written.order_at.Goals as goal

-- the state of the node that the index names
pub returns : goal.returns
returns c =
    let j = c.index.result.now in
    let k = c.index-node.result.now in
    let index : j ≡ get_or c.args.self.now.sorted c.args.i j =
    c.index.ensures ∙ ap (λ (w : WrittenNodes). get_or w.sorted c.args.i j) c.self.view_is in
    let node : k ≡ get_or c.args.self.now.nodes j k =
    c.index-node.ensures ∙ ap (λ (w : WrittenNodes). get_or w.nodes j k) c.self.view_is in
    record {
      order = λ d. c.order_states.ensures.order
          ∙ ap (λ (x : AbsState). slice_cmp nat_cmp (state_numbers x) (state_numbers c.args.state.now))
          (state-at c.args.nodes.now c.args.self.now c.args.i j k c.index-nodes-node.result d c.requires.written
          c.requires.within index node);
    }
