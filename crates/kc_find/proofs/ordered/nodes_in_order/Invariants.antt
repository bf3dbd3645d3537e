use Rattle.std.proofs.Common.{vec_len}
use Rattle.kc_find.proofs.ordered.nodes_in_order.Given as goal

abbrev pub decreases-loop-state : goal.decreases-loop-state
decreases-loop-state l = vec_len l.states
