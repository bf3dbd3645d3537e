use Rattle.std.proofs.Common.{leb, rules}
use Rattle.std.proofs.lemmas.List.Sorted.{IsPartitionPoint-from_clause, IsPartitionedBy-leb}
use Rattle.kc_regions.specs.Order.{first_of}
use Rattle.kc_regions.proofs.OrderLemmas.{cut-is, rises}
use Rattle.kc_regions.proofs.order.begun.Goals as goal

pub returns : goal.returns
returns c =
    let list = c.args.list.now in
    let order = c.args.order.now in
    let up = IsPartitionedBy-leb (first_of list) order c.args.a (rises list order c.requires) in
    cut-is list order c.args.a c.partition_point.result c.partition_point.ensures.bound
    (IsPartitionPoint-from_clause (λ i. leb (first_of list i) c.args.a) order c.partition_point.result
    c.partition_point.ensures.partitioned up (λ x r f k. search rules))
