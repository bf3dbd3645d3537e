use Rattle.std.proofs.Common.{◌≡◌, [], drop}
use Rattle.kc_rules.specs.Rules.{over}
use Rattle.kc_trace.specs.Words.{texts}
use Rattle.kc_trace.specs.Assignments.{add_assignment}
use Rattle.kc_trace.proofs.assignment.read_each.Given as goal

-- what the words left add to what was found is what all words give
abbrev pub invariant-loop-word : goal.invariant-loop-word
invariant-loop-word l =
    over add_assignment l.found (texts (drop l.word-index l.words)) ≡ over add_assignment [] (texts l.words)
