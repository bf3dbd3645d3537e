use Rattle.std.proofs.Common.{◌≡◌, ◌++◌, ◌+◌, length, take}
use Rattle.kc_machine.specs.Start.{tracked_words}
use Rattle.kc_machine.proofs.start.add_tracked.Given as goal

-- the words so far were appended
abbrev pub invariant-loop-word : goal.invariant-loop-word
invariant-loop-word l = record {
  list : l.words.items ≡ l.fn.words.items ++ tracked_words (take l.word-index l.tracked);
  count : length l.words.items ≡ length l.fn.words.items + l.word-index;
}
