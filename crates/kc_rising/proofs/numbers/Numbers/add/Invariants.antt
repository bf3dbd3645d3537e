use Rattle.std.proofs.Common.{◌≡◌, ℕ, ◌+◌, ◌-◌, false, get_or, vec_len}
use Rattle.kc_rising.proofs.numbers.Numbers.add.Given as goal

-- more marks, and none of them set
abbrev pub invariant-loop-self : goal.invariant-loop-self
invariant-loop-self l = record {
  items : l.self-inside.items ≡ l.initial.self-inside.items;
  marks : (n : ℕ) → get_or l.self-inside.marks.items n false ≡ get_or l.initial.self-inside.marks.items n false;
}

abbrev pub decreases-loop-self : goal.decreases-loop-self
decreases-loop-self l = l.number + 1 - vec_len l.self-inside.marks
