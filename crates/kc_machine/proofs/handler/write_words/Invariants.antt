use Rattle.std.proofs.Common.{◌≡◌, ◌+◌, ◌*◌, ◌≤◌, drop}
use Rattle.kc_events.specs.Delivery.{with_pushed}
use Rattle.kc_machine.proofs.handler.write_words.Given as goal

-- what is written and the words still to come are all; each word takes 8 of spare at most
abbrev pub invariant-loop-word : goal.invariant-loop-word
invariant-loop-word l = record {
  bytes : with_pushed l.fn.mem.bytes l.words ≡ with_pushed l.mem.bytes (drop l.word-index l.words);
  spare : l.fn.mem.spare ≤ l.mem.spare + 8 * l.word-index;
}
