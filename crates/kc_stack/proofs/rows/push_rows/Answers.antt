use Rattle.kc_stack.proofs.PushLemmas.{push, pushfq}
use Rattle.kc_stack.proofs.rows.push_rows.Goals as goal

pub returns-clause-push : goal.returns-clause-push
returns-clause-push c = push

pub returns-clause-pushfq : goal.returns-clause-pushfq
returns-clause-pushfq c = pushfq
