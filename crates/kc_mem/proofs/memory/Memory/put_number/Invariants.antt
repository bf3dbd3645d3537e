use Rattle.std.proofs.Common.{◌≡◌, ◌-◌, ◌+◌, ◌≤◌}
use Rattle.kc_mem.specs.Memory.{write}
use Rattle.kc_mem.proofs.memory.Memory.put_number.Given as goal

abbrev pub invariant-loop : goal.invariant-loop
invariant-loop l =
    (write l.self.bytes l.at (l.size - l.counter) l.rest ≡ write l.initial.self.bytes l.a l.size l.v)
    × (l.initial.self.spare ≤ l.self.spare + l.counter)
