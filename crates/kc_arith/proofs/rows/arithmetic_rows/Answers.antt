use Rattle.kc_arith.proofs.RowLemmas.{alu_row, test_row, bit_row}
use Rattle.kc_arith.proofs.rows.arithmetic_rows.Goals as goal

pub returns : goal.returns
returns c = record { operation = alu_row; comparison = test_row; bit = bit_row }
