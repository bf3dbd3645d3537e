use Rattle.kc_gen.specs.Generated.{generated_config}
use Rattle.kc_gen.proofs.generated.config.Goals as goal

pub returns : goal.returns
unfolding generated_config
returns c = c.joined_text.ensures
