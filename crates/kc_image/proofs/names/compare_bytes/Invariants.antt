use Rattle.std.proofs.Common.{◌≡◌}
use Rattle.kc_image.proofs.TextLemmas.{rest_order}
use Rattle.kc_image.proofs.names.compare_bytes.Given as goal

abbrev pub invariant-loop-i : goal.invariant-loop-i
invariant-loop-i l = rest_order l.first l.second l.i ≡ rest_order l.first l.second 0
