use Rattle.std.proofs.Common.{ap, sym, ◌∙◌}
use Rattle.kc_image.specs.Image.{Symbols, address_of}
use Rattle.kc_image.specs.SymbolSteps.{strings_in}
use Rattle.kc_image.proofs.SymbolLemmas.{symbols_of_none, found_here, not_found_here}
use Rattle.kc_image.proofs.tables.find_in_table.Goals as goal

pub returns-in-Some : goal.returns-in-Some
returns-in-Some c =
    let file = c.args.file.now in
    let t = c.args.table.now in
    let name = c.args.name.now in
    let here = c.in-Some.ensures ∙ ap (λ (symbols : Symbols). address_of symbols name) c.read_symbol-symbol.ensures in
    sym (found_here file (strings_in file t) t.first t.count c.loop-i.i name c.in-Some.value c.loop-i-test.true here)
    ∙ c.loop-i.invariant

pub loop-i-preserved : goal.loop-i-preserved
loop-i-preserved c =
    let file = c.args.file.now in
    let t = c.args.table.now in
    let name = c.args.name.now in
    let here =
    c.in_default.ensures ∙ ap (λ (symbols : Symbols). address_of symbols name) c.read_symbol-symbol.ensures in
    sym (not_found_here file (strings_in file t) t.first t.count c.loop-i.i name c.loop-i-test.true here)
    ∙ c.loop-i.invariant

pub returns : goal.returns
returns c =
    let file = c.args.file.now in
    let t = c.args.table.now in
    ap (λ (symbols : Symbols). address_of symbols c.args.name.now)
    (sym (symbols_of_none file (strings_in file t) t.first t.count c.loop-i.i c.loop-i-test.false))
    ∙ c.loop-i.invariant
