use Rattle.std.proofs.Common.{◌≡◌, ◌++◌}
use Rattle.kc_image.specs.declared.elf.TheConstants.{SYM_SIZE}
use Rattle.kc_image.specs.FirstFault.{entries}
use Rattle.kc_image.specs.SymbolSteps.{spelled, strings_in, symbols_at}
use Rattle.kc_image.proofs.index.with_table.Given as goal

abbrev pub invariant-loop-i : goal.invariant-loop-i
invariant-loop-i l =
    spelled l.file l.names.items
    ≡ spelled l.file l.fn.names.items
    ++ symbols_at l.file (strings_in l.file l.table) (entries l.table.first SYM_SIZE l.i)
