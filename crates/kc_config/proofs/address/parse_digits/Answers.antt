use Rattle.std.proofs.Common.{◌∙◌}
use Rattle.kc_config.proofs.TextLemmas.{digits_parse}
use Rattle.kc_config.proofs.address.parse_digits.Goals as goal

pub returns : goal.returns
returns c =
    c.ok.ensures.value
    ∙ digits_parse c.args.digits.now c.from_str_radix.result c.requires.all c.requires.some c.requires.short
    c.from_str_radix.ensures.value
