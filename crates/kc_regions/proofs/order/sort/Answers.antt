use Rattle.std.proofs.Common.{rules}
use Rattle.std.proofs.lemmas.List.Sorted.{IsNonDecreasingBy-from_sort_by_key}
use Rattle.kc_regions.specs.Order.{first_of}
use Rattle.kc_regions.proofs.order.sort.Goals as goal

pub returns-clause-rising : goal.returns-clause-rising
returns-clause-rising c = IsNonDecreasingBy-from_sort_by_key (first_of c.args.list.now) c.sort_unstable_by_key.new.self
    c.sort_unstable_by_key.ensures.sorted (λ a r q k. search rules)
