use Rattle.kc_system.proofs.LawLemmas.{user_base, base_value, whose_base, written_base}
use Rattle.kc_system.proofs.spaces.gs_bases.Goals as goal

pub returns : goal.returns
returns c = record { user = user_base; value = base_value; whose = whose_base; written = written_base }
