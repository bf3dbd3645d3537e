use Rattle.std.proofs.Common.{◌≡◌, ◌+◌, ◌-◌, ◌*◌}
use Rattle.kc_image.specs.declared.elf.TheConstants.{SYM_SIZE}
use Rattle.kc_image.specs.Image.{address_of}
use Rattle.kc_image.specs.FirstFault.{entries}
use Rattle.kc_image.specs.SymbolSteps.{strings_in, symbols_at, table_symbols}
use Rattle.kc_image.proofs.tables.find_in_table.Given as goal

abbrev pub invariant-loop-i : goal.invariant-loop-i
invariant-loop-i l =
    let rest = entries (l.table.first + SYM_SIZE * l.i) SYM_SIZE (l.table.count - l.i) in
    address_of (symbols_at l.file (strings_in l.file l.table) rest) l.name
    ≡ address_of (table_symbols l.file l.table) l.name
