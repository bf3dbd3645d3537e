use Rattle.std.proofs.Common.{◌≡◌, ◌+◌, ◌<◌, ◌≤◌, Bool, true, false, List, length, get_or, drop, sym, ap, ◌∙◌, subst, arith}
use Rattle.std.proofs.lemmas.List.{length-replicate}
use Rattle.std.proofs.Math.ListN.{set, length-set}
use Rattle.kc_cert.specs.Conditions.{is_return_node}
use Rattle.kc_cert.specs.declared.certificate.Node.{Node}
use Rattle.kc_check.proofs.MarkLemmas.{marked_or_left, is-marked, isn't-marked, all-marked, none-marked}
use Rattle.kc_check.proofs.returning.Returning.of.Goals as goal
use Rattle.kc_check.proofs.returning.Returning.of.Goals.{then-is_return_node, else-is_return_node}

pub loop-node-init : goal.loop-node-init
loop-node-init c = record {
  count = ap length c.none-all.ensures ∙ length-replicate 1024 false;
  marks = λ i. none-marked (is_return_node c.args.image.now) 1024 c.none-all.result c.args.cert.now.nodes i c.none-all.ensures;
}

-- the context that the node names has a mark, since it is one of the table's
pub mark-requires : goal.mark-requires
mark-requires c =
    let lt : c.loop-node.node-index < length c.args.cert.now.nodes =
    omega (arith, ap length c.as_slice-node-items.ensures.items, c.loop-node-test.true) in
    let is : c.node-item.result ≡ get_or c.args.cert.now.nodes c.loop-node.node-index c.node-item.result =
    c.node-item.is ∙ ap (λ (l : List Node). get_or l c.loop-node.node-index c.node-item.result)
    c.as_slice-node-items.ensures.items in
    subst (λ (n : Node). n.context < 1024) (sym is) (c.requires.named c.loop-node.node-index c.node-item.result lt)

pub loop-node-preserved : goal.loop-node-preserved
loop-node-preserved c =
    let test = is_return_node c.args.image.now in
    let nodes = c.args.cert.now.nodes in
    let k = c.loop-node.node-index in
    let n = c.node-item.result in
    let lt : k < length nodes = omega (arith, ap length c.as_slice-node-items.ensures.items, c.loop-node-test.true) in
    let is : n ≡ get_or nodes k n =
    c.node-item.is ∙ ap (λ (l : List Node). get_or l k n) c.as_slice-node-items.ensures.items in
    let named : n.context < 1024 = subst (λ (m : Node). m.context < 1024) (sym is) (c.requires.named k n lt) in
    elim c.if-is_return_node.branch [
      | then-is_return_node w ↦
          let all : c.if-is_return_node.all ≡ set c.loop-node.all n.context true = w.all-is ∙ w.mark.ensures in
          record {
            count = ap length all ∙ length-set c.loop-node.all n.context true ∙ c.loop-node.invariant.count;
            marks = λ i. ap (λ (m : List Bool). marked_or_left test m (drop (k + 1) nodes) i) all
                ∙ is-marked test c.loop-node.all nodes k n i lt is (omega (arith, named, c.loop-node.invariant.count))
                (sym c.is_return_node.ensures ∙ w.if-is_return_node.true)
                ∙ c.loop-node.invariant.marks i;
          }
      | else-is_return_node w ↦ record {
        count = ap length w.all-is ∙ c.loop-node.invariant.count;
        marks = λ i. ap (λ (m : List Bool). marked_or_left test m (drop (k + 1) nodes) i) w.all-is
            ∙ isn't-marked test c.loop-node.all nodes k n i lt is
            (sym c.is_return_node.ensures ∙ w.if-is_return_node.false)
            ∙ c.loop-node.invariant.marks i;
      }
    ]

pub returns : goal.returns
returns c =
    let le : length c.args.cert.now.nodes ≤ c.loop-node.node-index =
    omega (arith, ap length c.as_slice-node-items.ensures.items, c.loop-node-test.false) in
    record {
      marks = λ i. all-marked (is_return_node c.args.image.now) c.loop-node.all c.args.cert.now.nodes
          c.loop-node.node-index i le ∙ c.loop-node.invariant.marks i;
    }
