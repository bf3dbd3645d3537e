use Rattle.kc_replay.proofs.OnceLemmas.{replayed_once}
use Rattle.kc_replay.proofs.run.one_text.Goals as goal

pub returns : goal.returns
returns c = record { once = replayed_once c.one_reading.ensures.reading }
