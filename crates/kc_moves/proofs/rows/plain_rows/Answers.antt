use Rattle.kc_moves.proofs.RowLemmas.{nop, endbr64, lfence}
use Rattle.kc_moves.proofs.rows.plain_rows.Goals as goal

pub returns : goal.returns
returns c = record { nop = nop; endbr64 = endbr64; lfence = lfence }
