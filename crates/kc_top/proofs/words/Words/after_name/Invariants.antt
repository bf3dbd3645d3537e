use Rattle.std.proofs.Common.{◌≡◌, ◌++◌, drop, map, string_bytes}
use Rattle.std.specs.Vec.Iter.{into_iter_items}
use Rattle.kc_top.proofs.words.Words.after_name.Given as goal

-- the words so far and those that are still to come are all but the first
abbrev pub invariant-loop-word : goal.invariant-loop-word
invariant-loop-word l = record {
  words : l.words ++ map (λ s. string_bytes s) (into_iter_items l.word-iterator)
      ≡ drop 1 (map (λ s. string_bytes s) (into_iter_items l.fn.args));
}
