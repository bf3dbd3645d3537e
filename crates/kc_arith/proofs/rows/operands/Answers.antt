use Rattle.kc_arith.proofs.RowLemmas.{register_stands, immediate_stands}
use Rattle.kc_arith.proofs.rows.operands.Goals as goal

pub returns : goal.returns
returns c = record { register = register_stands; immediate = immediate_stands }
