use Rattle.kc_stack.proofs.PopLemmas.{ret}
use Rattle.kc_stack.proofs.PushLemmas.{call}
use Rattle.kc_stack.proofs.rows.call_rows.Goals as goal

pub returns-clause-call : goal.returns-clause-call
returns-clause-call c = call

pub returns-clause-ret : goal.returns-clause-ret
returns-clause-ret c = ret
