use Rattle.kc_system.proofs.LawLemmas.{cr3_value_stands, map_is_written, cr3_is_known}
use Rattle.kc_system.proofs.spaces.cr3_values.Goals as goal

pub returns : goal.returns
returns c = record { value = cr3_value_stands; map = map_is_written; known = cr3_is_known }
