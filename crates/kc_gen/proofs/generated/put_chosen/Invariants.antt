use Rattle.std.proofs.Common.{◌≡◌, ◌++◌}
use Rattle.kc_gen.specs.Generated.{number_at, chosen_lines}
use Rattle.kc_gen.proofs.generated.put_chosen.Given as goal

-- the lines of the numbers so far, and the last of these numbers
abbrev pub invariant-loop : goal.invariant-loop
invariant-loop l =
    (l.lines.items ≡ l.initial.lines.items ++ chosen_lines l.seed l.counter) × (l.x ≡ number_at l.seed l.counter)
