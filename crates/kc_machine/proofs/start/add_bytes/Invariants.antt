use Rattle.std.proofs.Common.{◌≡◌, ◌++◌, ◌-◌}
use Rattle.kc_machine.specs.Start.{bytes_of_word}
use Rattle.kc_machine.proofs.start.add_bytes.Given as goal

-- the bytes so far and those still to come are all
abbrev pub invariant-loop : goal.invariant-loop
invariant-loop l = l.fn.bytes.items ++ bytes_of_word 8 l.fn.word.0 l.fn.word.1 ≡ l.bytes.items ++ bytes_of_word
    (8 - l.counter) l.at l.rest
