use Rattle.std.proofs.Common.{arith}
use Rattle.kc_regions.specs.Region.{is_stack}
use Rattle.kc_regions.proofs.OrderLemmas.{few-pass}
use Rattle.kc_regions.proofs.order.numbers_of.Goals as goal

pub overflow_add-count : goal.overflow_add-count
overflow_add-count c =
    omega (
      arith,
      c.loop-region.invariant.1,
      few-pass (λ r. is_stack r.kind) c.args.list.now c.loop-region.region-index,
      c.requires,
    )
