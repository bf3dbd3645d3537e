use Rattle.std.proofs.Common.{◌+◌, drop, get_or, ap, sym, ◌∙◌}
use Rattle.std.proofs.lemmas.List.{drop_all}
use Rattle.kc_image.specs.Image.{Symbols, address_of}
use Rattle.kc_image.specs.SymbolSteps.{symbols_in, table_symbols}
use Rattle.kc_image.proofs.SymbolLemmas.{no_table, symbols_in_rest, symbols_in_none, found_in_two, or_some, or_none}
use Rattle.kc_image.proofs.tables.find_in_tables.Goals as goal

pub returns-in-Some : goal.returns-in-Some
returns-in-Some c =
    let file = c.args.file.now in
    let tables = c.args.tables.now in
    let name = c.args.name.now in
    let i = c.loop-table.table-index in
    let here = table_symbols file (get_or tables i no_table) in
    let rest = symbols_in file (drop (i + 1) tables) in
    sym (or_some (address_of here name) (address_of rest name) c.in-Some.value c.in-Some.ensures)
    ∙ sym (found_in_two here rest name)
    ∙ ap (λ (symbols : Symbols). address_of symbols name)
    (sym (symbols_in_rest file tables i no_table c.loop-table-test.true))
    ∙ c.loop-table.invariant

pub loop-table-preserved : goal.loop-table-preserved
loop-table-preserved c =
    let file = c.args.file.now in
    let tables = c.args.tables.now in
    let name = c.args.name.now in
    let i = c.loop-table.table-index in
    let here = table_symbols file (get_or tables i no_table) in
    let rest = symbols_in file (drop (i + 1) tables) in
    sym (or_none (address_of here name) (address_of rest name) c.in_default.ensures)
    ∙ sym (found_in_two here rest name)
    ∙ ap (λ (symbols : Symbols). address_of symbols name)
    (sym (symbols_in_rest file tables i no_table c.loop-table-test.true))
    ∙ c.loop-table.invariant

pub returns : goal.returns
returns c =
    let file = c.args.file.now in
    let tables = c.args.tables.now in
    ap (λ (symbols : Symbols). address_of symbols c.args.name.now)
    (sym
    (ap (symbols_in file) (drop_all c.loop-table.table-index tables c.loop-table-test.false) ∙ symbols_in_none file))
    ∙ c.loop-table.invariant
