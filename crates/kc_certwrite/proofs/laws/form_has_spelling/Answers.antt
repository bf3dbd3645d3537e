use Rattle.kc_certwrite.proofs.SpellingLemmas.{spelled}
use Rattle.kc_certwrite.proofs.laws.form_has_spelling.Goals as goal

pub returns : goal.returns
returns c = record { spelled = spelled }
