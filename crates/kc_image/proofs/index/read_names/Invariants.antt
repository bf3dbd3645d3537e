use Rattle.std.proofs.Common.{◌≡◌, take}
use Rattle.kc_image.specs.SymbolSteps.{spelled, symbols_in}
use Rattle.kc_image.proofs.index.read_names.Given as goal

abbrev pub invariant-loop-table : goal.invariant-loop-table
invariant-loop-table l = spelled l.file l.names.items ≡ symbols_in l.file (take l.table-index l.tables)
