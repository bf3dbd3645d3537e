use Rattle.std.proofs.Common.{◌≡◌, take}
use Rattle.std.specs.List.{All}
use Rattle.kc_mem.specs.PageSteps.{AreZeros, numbers_of}
use Rattle.kc_mem.proofs.pages.numbered_pages.Given as goal

abbrev pub invariant-loop-number : goal.invariant-loop-number
invariant-loop-number l =
    (numbers_of l.pages.items ≡ take l.number-index l.numbers) × All (λ p. AreZeros p.bytes.items) l.pages.items
