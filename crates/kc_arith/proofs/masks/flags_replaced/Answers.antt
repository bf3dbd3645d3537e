use Rattle.kc_arith.proofs.MarkLemmas.{flags_replaced}
use Rattle.kc_arith.proofs.masks.flags_replaced.Goals as goal

pub returns : goal.returns
returns c = record { covers = flags_replaced }
