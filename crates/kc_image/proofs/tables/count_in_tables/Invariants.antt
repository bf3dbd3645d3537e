use Rattle.std.proofs.Common.{◌≡◌, ◌-◌, ◌^◌, length, min, take}
use Rattle.kc_image.specs.SymbolSteps.{symbols_in}
use Rattle.kc_image.proofs.tables.count_in_tables.Given as goal

abbrev pub invariant-loop-table : goal.invariant-loop-table
invariant-loop-table l = l.count ≡ min (length (symbols_in l.file (take l.table-index l.tables))) (2 ^ 64 - 1)
