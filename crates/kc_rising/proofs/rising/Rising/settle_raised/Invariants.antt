use Rattle.std.proofs.Common.{◌≡◌, ◌≤◌, ◌+◌, false, cond, length, map, sum_by, vec_len}
use Rattle.kc_rising.specs.Listed.{AreListed}
use Rattle.kc_rising.specs.Values.{has_risen, next_value}
use Rattle.kc_rising.proofs.ListedLemmas.{IsCounted}
use Rattle.kc_rising.proofs.rising.Rising.settle_raised.Given as goal

-- the cells that are left to settle are listed, those that are settled are counted, and what each will be stays
abbrev pub invariant-loop-number : goal.invariant-loop-number
invariant-loop-number g l =
    let rank = g.D.Domain.rank in
    let cells = l.self-inside.cells.items in
    let first = l.initial.self-inside.cells.items in
    record {
      listed : AreListed l.self-inside.raised.items (has_risen (map (λ c. c.next) cells));
      counted : IsCounted (has_risen (map (λ c. c.next) first)) (has_risen (map (λ c. c.next) cells))
          l.initial.changed l.changed;
      stays : map (λ c. next_value c.value c.next) cells ≡ map (λ c. next_value c.value c.next) first;
      fresh : l.self-inside.fresh.items ≡ l.initial.self-inside.fresh.items;
      length : length cells ≡ length first;
      same : l.rose ≡ false → map (λ c. c.value) cells ≡ map (λ c. c.value) first;
      rank : sum_by rank (map (λ c. c.value) cells) + cond l.rose 1 0 ≤ sum_by rank (map (λ c. c.value) first);
    }

abbrev pub decreases-loop-number : goal.decreases-loop-number
decreases-loop-number g l = vec_len l.self-inside.raised
