use Rattle.std.proofs.Common.{◌≡◌, ◌-◌, ap, ◌∙◌, List, take, drop}
use Rattle.std.proofs.lemmas.List.{take_rest}
use Rattle.kc_cert.specs.declared.certificate.Node.{Node}
use Rattle.kc_cert.proofs.Ranges.{ends-in-order, range-is}
use Rattle.kc_cert.proofs.lookup.nodes_of.Goals as goal

-- the nodes from the start on, and of these those before the end
pub returns : goal.returns
returns c = record {
  value = ap (λ (l : List Node). take (c.start_of-end.result - c.start_of-start.result) l)
      (take_rest c.as_slice.result.now c.start_of-start.result)
      ∙ ap (λ (l : List Node). take (c.start_of-end.result - c.start_of-start.result) (drop c.start_of-start.result l))
      c.as_slice.ensures.items
      ∙ range-is c.args.i c.args.cert.now.nodes c.start_of-start.result c.start_of-end.result c.start_of-start.ensures
      c.start_of-end.ensures;
}

pub slice_bounds-result-count : goal.slice_bounds-result-count
slice_bounds-result-count c =
    ends-in-order c.args.i c.args.cert.now.nodes c.start_of-start.result c.start_of-end.result c.start_of-start.ensures
    c.start_of-end.ensures
