use Rattle.std.proofs.Common.{◌≡◌, length, take}
use Rattle.kc_regions.specs.Order.{AreNumbers}
use Rattle.kc_regions.specs.Region.{stacks_of}
use Rattle.kc_regions.proofs.order.numbers_of.Given as goal

-- the counts of the regions before this one, and how many stacks are among them
abbrev pub invariant-loop-region : goal.invariant-loop-region
invariant-loop-region l = AreNumbers (take l.region-index l.list) l.numbers.items
    × (l.count ≡ length (stacks_of (take l.region-index l.list)))
