use Rattle.kc_arith.proofs.BitLemmas.{all_covers}
use Rattle.kc_arith.proofs.ResultLemmas.{word_sum_covers}
use Rattle.kc_arith.proofs.WidthLemmas.{scaled_covers}
use Rattle.kc_arith.proofs.masks.words.Goals as goal

pub returns : goal.returns
returns c = record { number = all_covers; sum = word_sum_covers; scaled = scaled_covers }
