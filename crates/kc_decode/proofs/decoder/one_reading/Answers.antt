use Rattle.kc_decode.proofs.Answers.{unique}
use Rattle.kc_decode.proofs.decoder.one_reading.Goals as goal

pub returns : goal.returns
returns c = record { reading = unique }
