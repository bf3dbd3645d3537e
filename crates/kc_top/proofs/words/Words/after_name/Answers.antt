use Rattle.std.proofs.Common.{◌∙◌, ◌∷◌, ◌++◌, [], string_bytes, ap}
use Rattle.kc_top.proofs.WordsLemmas.{after_first, next_given, all_given}
use Rattle.kc_top.proofs.words.Words.after_name.Goals as goal

-- before the first word, all but the name are still to come
pub loop-word-init : goal.loop-word-init
loop-word-init c = record {
  words = rw (c.new-words.ensures.empty, c.into_iter-word-iterator.ensures.into_iter_gives)
      (after_first (λ s. string_bytes s) c.args.args c.next-name.new.self c.next-name.result c.next-name.ensures.cases);
}

-- one word more
pub loop-word-preserved : goal.loop-word-preserved
loop-word-preserved c = record {
  words = next_given (λ s. string_bytes s) c.loop-word.words c.push.new.self _ c.loop-word.word-iterator c.next.new.self
      c.in-Some.word c.in-Some.ensures.steps.0
      (c.in_ok-push.ensures.added ∙ ap (λ w. c.loop-word.words ++ w ∷ []) c.as_str.ensures.value)
      c.loop-word.invariant.words;
}

-- none is still to come
pub returns : goal.returns
returns c = record {
  words = all_given (λ s. string_bytes s) c.loop-word.words _ c.loop-word.word-iterator c.in-None.ensures.steps.0
      c.loop-word.invariant.words;
}
