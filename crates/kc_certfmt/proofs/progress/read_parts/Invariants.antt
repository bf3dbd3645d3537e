use Rattle.kc_certfmt.specs.Steps.{Leads}
use Rattle.kc_certfmt.proofs.ResumeLemmas.{parts_left}
use Rattle.kc_certfmt.proofs.progress.read_parts.Given as goal

abbrev pub invariant-loop-alloc : goal.invariant-loop-alloc
invariant-loop-alloc l = Leads l.initial.table l.initial.input l.table l.input

abbrev pub decreases-loop-alloc : goal.decreases-loop-alloc
decreases-loop-alloc l = parts_left l.table
