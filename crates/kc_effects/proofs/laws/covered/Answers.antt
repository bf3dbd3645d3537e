use Rattle.kc_effects.proofs.RowLemmas.{covered_rows}
use Rattle.kc_effects.proofs.laws.covered.Goals as goal

pub returns : goal.returns
returns c = record { rows = covered_rows }
