use Rattle.std.proofs.Common.{◌≡◌, ◌-◌, ◌<◌, List, length, get_or, Option, Some, refl, sym, ap, ◌∙◌, arith}
use Rattle.std.proofs.lemmas.Option.{get_or_from_slice_get, slice_get_read}
use Rattle.std.specs.Prelude.{slice_get}
use Rattle.kc_state.specs.declared.state.AbsState.{AbsState}
use Rattle.kc_cert.specs.declared.certificate.Node.{Node}
use Rattle.kc_certform.proofs.WrittenLemmas.{state-got, state-past}
use Rattle.kc_certfmt.specs.Reading.{Nodes}
use Rattle.kc_certfmt.proofs.list.NodeList.written_state.Goals as goal

-- there are fewer
pub returns-then-share-len : goal.returns-then-share-len
returns-then-share-len c =
    let k = c.args.share - 1 in record {
      state = sym (state-past c.self.inside.nodes c.self.inside.written k c.self.invariant (omega arith))
          ∙ ap (λ (v : Nodes). slice_get v.written k) c.self.view_is;
    }

-- the number is one of a node
pub bounds-as_slice-node : goal.bounds-as_slice-node
bounds-as_slice-node c =
    let k = c.args.share - 1 in
    let below : k < length c.self.inside.written.nodes = omega arith in
    let named = c.self.invariant.named k 0 below in
    let number = get_or_from_slice_get c.self.inside.written.nodes k c.node-node.result 0 c.node-node.ensures.number in
    omega (arith, named, number, ap length c.as_slice.ensures.items)

pub returns : goal.returns
returns c =
    let k = c.args.share - 1 in
    let nodes = c.self.inside.nodes in
    let w = c.self.inside.written in
    let at = c.node-node.result in
    let n = c.index-as_slice-node.result in
    let below : k < length w.nodes = omega arith in
    let named = c.self.invariant.named k 0 below in
    let number = get_or_from_slice_get w.nodes k at 0 c.node-node.ensures.number in
    let within : at < length nodes = omega (arith, named, number) in
    let here : n ≡ get_or nodes at n =
    c.index-as_slice-node.is ∙ ap (λ (l : List Node). get_or l at n) c.as_slice.ensures.items in
    let item : slice_get nodes at ≡ Some n = slice_get_read nodes (length nodes) at n refl within here in
    let state : Node → Option AbsState = λ m. Some m.state in
    record {
      state = ap state (sym c.index-as_slice-node.is)
          ∙ sym (state-got nodes w k at n c.self.invariant c.node-node.ensures.number item)
          ∙ ap (λ (v : Nodes). slice_get v.written k) c.self.view_is;
    }
