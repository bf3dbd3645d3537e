use Rattle.std.proofs.Common.{◌≡◌, ◌++◌, drop, length}
use Rattle.kc_events.specs.Delivery.{pushed}
use Rattle.kc_events.proofs.delivery.place_words.Given as goal

-- the words so far and those still to come are all
abbrev pub invariant-loop-word : goal.invariant-loop-word
invariant-loop-word l = record {
  whole : pushed l.fn.top l.words ≡ l.frame.items ++ pushed l.at (drop l.word-index l.words);
  count : length l.frame.items ≡ l.word-index;
}
