use Rattle.kc_image.specs.SymbolSteps.{strings_in}
use Rattle.kc_image.proofs.SymbolLemmas.{PassedSoFar}
use Rattle.kc_image.proofs.sections.check_entries.Given as goal

abbrev pub invariant-loop-i : goal.invariant-loop-i
invariant-loop-i l = PassedSoFar l.file (strings_in l.file l.table) l.table.first l.table.count l.i
