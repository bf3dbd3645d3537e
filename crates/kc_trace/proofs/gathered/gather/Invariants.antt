use Rattle.std.proofs.Common.{◌≡◌, ◌+◌, length}
use Rattle.kc_rules.specs.Rules.{over}
use Rattle.kc_trace.specs.Words.{lines_of}
use Rattle.kc_trace.specs.Script.{add_line, gathered}
use Rattle.kc_trace.proofs.gathered.gather.Given as goal

-- what the lines left add to what was found is what all lines give
abbrev pub invariant-loop-rest : goal.invariant-loop-rest
invariant-loop-rest l = record {
  found : over add_line l.found (lines_of l.rest) ≡ gathered l.text;
  count : l.found.count + length (lines_of l.rest) ≡ length (lines_of l.text);
}

abbrev pub decreases-loop-rest : goal.decreases-loop-rest
decreases-loop-rest l = length l.rest
