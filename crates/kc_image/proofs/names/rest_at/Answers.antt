use Rattle.std.proofs.Common.{◌∙◌}
use Rattle.std.proofs.lemmas.List.{take_rest}
use Rattle.kc_image.proofs.TextLemmas.{drop_capped}
use Rattle.kc_image.proofs.names.rest_at.Goals as goal

pub returns : goal.returns
returns c = take_rest c.args.file.now c.min.result ∙ drop_capped c.args.file.now c.args.at c.min.result c.min.ensures
