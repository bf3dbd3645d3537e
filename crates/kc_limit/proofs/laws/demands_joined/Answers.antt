use Rattle.kc_limit.proofs.TableLemmas.{all-above, all-hold, all-least, all-table, below-antisym}
use Rattle.kc_limit.proofs.laws.demands_joined.Goals as goal

pub returns : goal.returns
returns c = record { valid = all-table; above = all-above; held = all-hold; least = all-least; one = below-antisym }
