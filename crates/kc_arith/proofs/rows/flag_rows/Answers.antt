use Rattle.kc_arith.proofs.RowLemmas.{cli_row, cld_row, clac_row, stac_row, sti_row, popfq_row}
use Rattle.kc_arith.proofs.rows.flag_rows.Goals as goal

pub returns : goal.returns
returns c = record { cli = cli_row; cld = cld_row; clac = clac_row; stac = stac_row; sti = sti_row; popfq = popfq_row }
