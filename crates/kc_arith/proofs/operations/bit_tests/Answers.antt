use Rattle.kc_arith.proofs.BitLemmas.{bit_flags_cover, set_covers, reset_covers}
use Rattle.kc_arith.proofs.operations.bit_tests.Goals as goal

pub returns : goal.returns
returns c = record { flags = bit_flags_cover; set = set_covers; reset = reset_covers }
