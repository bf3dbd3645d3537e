use Rattle.std.proofs.Common.{◌≡◌, length}
use Rattle.kc_image.specs.declared.elf.TheConstants.{SYM_SIZE}
use Rattle.kc_image.specs.FirstFault.{entries}
use Rattle.kc_image.specs.SymbolSteps.{strings_in, symbols_at}
use Rattle.kc_image.proofs.tables.count_in_table.Given as goal

abbrev pub invariant-loop-i : goal.invariant-loop-i
invariant-loop-i l =
    l.count ≡ length (symbols_at l.file (strings_in l.file l.table) (entries l.table.first SYM_SIZE l.i))
