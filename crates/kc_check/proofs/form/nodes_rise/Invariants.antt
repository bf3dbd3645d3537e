use Rattle.std.proofs.Common.{map}
use Rattle.kc_cert.specs.Table.{position_of, position_order}
use Rattle.kc_check.proofs.ListLemmas.{StepsUp}
use Rattle.kc_check.proofs.form.nodes_rise.Given as goal

-- each position so far is before the next
abbrev pub invariant-loop-i : goal.invariant-loop-i
invariant-loop-i l = StepsUp position_order (map position_of l.nodes) l.i
