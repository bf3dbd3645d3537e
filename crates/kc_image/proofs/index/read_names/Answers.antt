use Rattle.std.proofs.Common.{ap, sym, get_or, ◌++◌, ◌∙◌}
use Rattle.kc_image.specs.Image.{Symbols}
use Rattle.kc_image.specs.SymbolSteps.{spelled, table_symbols}
use Rattle.kc_image.proofs.SymbolLemmas.{no_table, symbols_in_more, symbols_in_none}
use Rattle.kc_image.proofs.index.read_names.Goals as goal

pub loop-table-init : goal.loop-table-init
loop-table-init c =
    ap (spelled c.args.file.now) c.in_ok-names.ensures.items ∙ sym (symbols_in_none c.args.file.now)

pub loop-table-preserved : goal.loop-table-preserved
loop-table-preserved c =
    let file = c.args.file.now in
    let tables = c.args.tables.now in
    let i = c.loop-table.table-index in
    let here = table_symbols file (get_or tables i no_table) in
    c.in_ok-names-2.ensures ∙ ap (λ (before : Symbols). before ++ here) c.loop-table.invariant
    ∙ sym (symbols_in_more file tables i no_table c.loop-table-test.true)
