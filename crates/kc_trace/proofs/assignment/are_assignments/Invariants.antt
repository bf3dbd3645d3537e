use Rattle.std.proofs.Common.{◌≡◌, drop}
use Rattle.kc_trace.specs.Words.{texts}
use Rattle.kc_trace.specs.Assignments.{are_assignments}
use Rattle.kc_trace.proofs.assignment.are_assignments.Given as goal

-- the words left decide
abbrev pub invariant-loop-i : goal.invariant-loop-i
invariant-loop-i l = are_assignments l.setter (texts (drop l.i l.words)) ≡ are_assignments l.setter (texts l.words)
