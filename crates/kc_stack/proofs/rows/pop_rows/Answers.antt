use Rattle.kc_stack.proofs.PopLemmas.{pop}
use Rattle.kc_stack.proofs.rows.pop_rows.Goals as goal

pub returns : goal.returns
returns c = record { pop = pop }
