use Rattle.std.proofs.Common.{◌≡◌, take}
use Rattle.kc_image.specs.SymbolSteps.{entry_count}
use Rattle.kc_image.proofs.index.count_entries.Given as goal

abbrev pub invariant-loop-table : goal.invariant-loop-table
invariant-loop-table l = l.count ≡ entry_count (take l.table-index l.tables)
