use Rattle.kc_arith.proofs.ConditionLemmas.{gap_stands}
use Rattle.kc_arith.proofs.ModelLemmas.{set_stands, clear_stands, loaded_stands}
use Rattle.kc_arith.proofs.flags.flag_changes.Goals as goal

pub returns : goal.returns
returns c = record { set = set_stands; cleared = clear_stands; loaded = loaded_stands; gap = gap_stands }
