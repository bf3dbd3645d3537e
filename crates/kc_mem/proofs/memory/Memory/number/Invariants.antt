use Rattle.std.proofs.Common.{◌≡◌, ◌-◌, ◌+◌, ◌≤◌, ◌%◌, ◌^◌}
use Rattle.kc_mem.specs.Memory.{read}
use Rattle.kc_mem.proofs.memory.Memory.number.Given as goal

abbrev pub invariant-loop-left : goal.invariant-loop-left
invariant-loop-left l = (l.left ≤ l.size) × (l.v ≡ read l.self.bytes ((l.a + l.left) % 2 ^ 64) (l.size - l.left))

abbrev pub decreases-loop-left : goal.decreases-loop-left
decreases-loop-left l = l.left
