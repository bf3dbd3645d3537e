use Rattle.std.proofs.Common.{◌≡◌, ◌⊎◌, ◌/◌, take}
use Rattle.std.specs.List.{All, Contains}
use Rattle.kc_mem.specs.PageSteps.{HasPage}
use Rattle.kc_mem.proofs.pages.missing_numbers.Given as goal

abbrev pub invariant-loop-a : goal.invariant-loop-a
invariant-loop-a l =
    All (λ n. ¬ HasPage l.pages n) l.numbers.items
    × All (λ w. HasPage l.pages (w.0 / 4096) ⊎ Contains l.numbers.items (w.0 / 4096)) (take l.a-index l.writes)
