use Rattle.kc_body.proofs.EditLemmas.{edited_described}
use Rattle.kc_body.proofs.edit.edited.Goals as goal

pub returns : goal.returns
returns c = record { described = edited_described }
