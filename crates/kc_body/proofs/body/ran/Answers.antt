use Rattle.kc_body.proofs.LawLemmas.{body_covered}
use Rattle.kc_body.proofs.body.ran.Goals as goal

pub returns : goal.returns
returns c = record { covered = body_covered }
