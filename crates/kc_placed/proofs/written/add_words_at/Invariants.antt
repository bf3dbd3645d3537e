use Rattle.std.proofs.Common.{◌≡◌}
use Rattle.kc_placed.proofs.WrittenLemmas.{words_from}
use Rattle.kc_placed.proofs.written.add_words_at.Given as goal

-- what was added, with the words from number i on, is all
abbrev pub invariant-loop-i : goal.invariant-loop-i
invariant-loop-i l = words_from l.cfg l.key l.l l.size l.all l.i ≡ words_from l.cfg l.key l.l l.size l.initial.all 0
