use Rattle.std.proofs.Common.{◌∙◌, sym}
use Rattle.kc_config.proofs.TextLemmas.{plain_name}
use Rattle.kc_config.proofs.address.whole_name.Goals as goal

pub returns-else-is_empty : goal.returns-else-is_empty
returns-else-is_empty c = sym (plain_name c.args.text.now (sym c.is_empty.ensures ∙ c.if-is_empty.false) c.requires)
