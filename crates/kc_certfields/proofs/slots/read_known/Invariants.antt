use Rattle.std.proofs.Common.{◌≡◌, ◌-◌}
use Rattle.kc_certfields.specs.Reads.{times}
use Rattle.kc_certfields.specs.Slots.{next_slot}
use Rattle.kc_certfields.proofs.slots.read_known.Given as goal

-- the slots up to here, and the ones that are left
abbrev pub invariant-loop-done : goal.invariant-loop-done
invariant-loop-done l =
    times (next_slot l.limit) (l.count - l._done) (l.least, l.known) l.input
    ≡ times (next_slot l.limit) l.count (0, l.initial.known) l.initial.input
