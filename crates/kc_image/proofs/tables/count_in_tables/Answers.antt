use Rattle.std.proofs.Common.{length, ap, refl, arith, length-append, take, get_or}
use Rattle.kc_image.specs.Image.{Symbols}
use Rattle.kc_image.specs.SymbolSteps.{symbols_in, table_symbols}
use Rattle.kc_image.proofs.SymbolLemmas.{no_table, symbols_in_more}
use Rattle.kc_image.proofs.tables.count_in_tables.Goals as goal

pub loop-table-init : goal.loop-table-init
unfolding symbols_in
loop-table-init c = refl

pub loop-table-preserved : goal.loop-table-preserved
loop-table-preserved c =
    let file = c.args.file.now in
    let tables = c.args.tables.now in
    let i = c.loop-table.table-index in
    let more =
    ap (λ (symbols : Symbols). length symbols) (symbols_in_more file tables i no_table c.loop-table-test.true) in
    omega (
      arith,
      more,
      length-append (symbols_in file (take i tables)) (table_symbols file (get_or tables i no_table)),
      c.count_in_table.ensures,
      c.saturating_add-count.ensures,
      c.loop-table.invariant,
    )
