use Rattle.std.proofs.Common.{◌≡◌, drop}
use Rattle.kc_mem.specs.Memory.{Bytes, put_all}
use Rattle.kc_events.specs.Delivery.{with_pushed}
use Rattle.kc_machine.proofs.start.bytes_of.Given as goal

-- the bytes so far and the words still to come are all
abbrev pub invariant-loop-word : goal.invariant-loop-word
invariant-loop-word l =
    (m : Bytes) → with_pushed m l.words ≡ with_pushed (put_all m l.bytes.items) (drop l.word-index l.words)
