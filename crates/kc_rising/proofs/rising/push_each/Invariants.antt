use Rattle.std.proofs.Common.{◌≡◌, ◌≤◌, ◌<◌, ◌+◌, ◌++◌, ◌⊎◌, ◌↔◌, ℕ, length, map}
use Rattle.kc_rising.specs.Listed.{IsListed}
use Rattle.kc_rising.specs.Values.{has_risen, next_value}
use Rattle.kc_rising.proofs.rising.push_each.Given as goal

-- a cell without a next value for each value so far, and its number is listed
abbrev pub invariant-loop-value : goal.invariant-loop-value
invariant-loop-value g l =
    let cells = l.cells.items in
    let first = l.initial.cells.items in
    record {
      values : map (λ c. c.value) cells ≡ map (λ c. c.value) first ++ l.yielded;
      nexts : map (λ c. next_value c.value c.next) cells ≡ map (λ c. next_value c.value c.next) first ++ l.yielded;
      risen : (n : ℕ) → has_risen (map (λ c. c.next) cells) n ≡ has_risen (map (λ c. c.next) first) n;
      count : length cells ≡ length first + length l.yielded;
      listed : (n : ℕ) → IsListed l.changed n
          ↔ (IsListed l.initial.changed n ⊎ ((length first ≤ n) × (n < length cells)));
    }
