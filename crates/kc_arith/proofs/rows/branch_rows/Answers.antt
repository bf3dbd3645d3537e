use Rattle.kc_arith.proofs.RowLemmas.{jcc_row, jmp_row}
use Rattle.kc_arith.proofs.rows.branch_rows.Goals as goal

pub returns : goal.returns
returns c = record { conditional = jcc_row; jump = jmp_row }
