use Rattle.kc_gen.specs.Samples.{sample_config}
use Rattle.kc_gen.proofs.samples.config.Goals as goal

pub returns-in-S0 : goal.returns-in-S0
unfolding sample_config
returns-in-S0 c = rw c.in-S0.is c.joined_text.ensures

pub returns-in-S1 : goal.returns-in-S1
unfolding sample_config
returns-in-S1 c = rw c.in-S1.is c.joined_text-in-S1.ensures

pub returns-in-S2 : goal.returns-in-S2
unfolding sample_config
returns-in-S2 c = rw c.in-S2.is c.joined_text-in-S2.ensures
