use Rattle.std.proofs.Common.{◌≡◌, drop}
use Rattle.kc_image.specs.Image.{address_of}
use Rattle.kc_image.specs.SymbolSteps.{symbols_in}
use Rattle.kc_image.proofs.tables.find_in_tables.Given as goal

abbrev pub invariant-loop-table : goal.invariant-loop-table
invariant-loop-table l =
    address_of (symbols_in l.file (drop l.table-index l.tables)) l.name ≡ address_of (symbols_in l.file l.tables) l.name
