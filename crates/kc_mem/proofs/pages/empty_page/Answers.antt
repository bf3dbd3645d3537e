use Rattle.std.proofs.Common.{arith}
use Rattle.kc_mem.proofs.EditLemmas.{are_zeros}
use Rattle.kc_mem.proofs.pages.empty_page.Goals as goal

pub returns : goal.returns
returns c = are_zeros 4096 c.in_ok-vec.field-0.items (c.in_ok-vec.ensures.items_if_clones_equal (λ y is. is))
    (omega (arith, c.in_ok-vec.ensures.len))
