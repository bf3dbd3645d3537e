use Rattle.kc_machine.proofs.ChainLemmas.{popped}
use Rattle.kc_machine.proofs.chain.drop_newest.Goals as goal

pub returns : goal.returns
returns c = popped c.pop.result c.args.chain.now c.pop.new.self c.pop.ensures.last
