use Rattle.kc_arith.proofs.HalfLemmas.{upper_covers, joined_covers}
use Rattle.kc_arith.proofs.masks.halves.Goals as goal

pub returns : goal.returns
returns c = record { upper = upper_covers; joined = joined_covers }
