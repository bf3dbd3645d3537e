use Rattle.kc_certlaw.proofs.ReadOnly.{read-spelling}
use Rattle.kc_certlaw.proofs.laws.read_has_spelling.Goals as goal

pub returns : goal.returns
returns c = record { spelled = λ bytes cert h. read-spelling bytes cert h }
