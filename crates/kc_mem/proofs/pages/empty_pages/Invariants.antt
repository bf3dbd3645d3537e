use Rattle.std.proofs.Common.{◌≡◌}
use Rattle.std.specs.List.{All}
use Rattle.std.specs.Vec.{vec_len}
use Rattle.kc_mem.specs.PageSteps.{AreZeros}
use Rattle.kc_mem.proofs.pages.empty_pages.Given as goal

abbrev pub invariant-loop : goal.invariant-loop
invariant-loop l = (vec_len l.pages ≡ l.counter) × All (λ p. AreZeros p.items) l.pages.items
