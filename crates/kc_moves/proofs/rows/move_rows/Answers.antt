use Rattle.kc_moves.proofs.RowLemmas.{mov, lea, xchg}
use Rattle.kc_moves.proofs.rows.move_rows.Goals as goal

pub returns : goal.returns
returns c = record { mov = mov; lea = lea; xchg = xchg }
