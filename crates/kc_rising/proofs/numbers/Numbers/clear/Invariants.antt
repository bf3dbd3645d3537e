use Rattle.std.proofs.Common.{false, get_or, vec_len}
use Rattle.kc_rising.specs.Listed.{AreListed}
use Rattle.kc_rising.proofs.numbers.Numbers.clear.Given as goal

-- those that are left are those that are marked
abbrev pub invariant-loop-number : goal.invariant-loop-number
invariant-loop-number l =
    AreListed l.self-inside.items.items (λ n. get_or l.self-inside.marks.items n false)

abbrev pub decreases-loop-number : goal.decreases-loop-number
decreases-loop-number l = vec_len l.self-inside.items
