use Rattle.std.proofs.Common.{sym, ◌∙◌}
use Rattle.kc_events.proofs.ChainLemmas.{newest-last}
use Rattle.kc_machine.proofs.chain.newest.Goals as goal

pub returns : goal.returns
returns c = c.last.ensures.value ∙ sym (newest-last c.args.chain.now)
