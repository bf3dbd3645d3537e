use Rattle.std.proofs.Common.{List, length, take, drop, ◌-◌, ap, sym, ◌∙◌}
use Rattle.std.proofs.lemmas.List.{take_rest}
use Rattle.kc_image.specs.declared.index.Named.{Named}
use Rattle.kc_image.specs.declared.tables.Table.{Table}
use Rattle.kc_image.specs.Image.{address_of}
use Rattle.kc_image.specs.SymbolSteps.{spelled, symbols_in}
use Rattle.kc_image.proofs.SymbolLemmas.{found_in_parts, or_some, or_none}
use Rattle.kc_image.proofs.symbols.SymbolTables.find.Goals as goal

pub returns-in-Some : goal.returns-in-Some
returns-in-Some c =
    let file = c.args.file.now in
    let name = c.args.name.now in
    let symbols = c.args.self.now in
    let tables = symbols.tables.items in
    let k = symbols.index.tables in
    let found = c.in-Some.ensures ∙ ap (λ (ns : List Named). address_of (spelled file ns) name) c.deref.ensures.value
    ∙ c.requires.index.first name in
    sym
    (found_in_parts file tables k name
    ∙ or_some _ (address_of (symbols_in file (drop k tables)) name) c.in-Some.value found)

pub returns-in-None : goal.returns-in-None
returns-in-None c =
    let file = c.args.file.now in
    let name = c.args.name.now in
    let symbols = c.args.self.now in
    let tables = symbols.tables.items in
    let k = symbols.index.tables in
    let none = c.in-None.ensures ∙ ap (λ (ns : List Named). address_of (spelled file ns) name) c.deref.ensures.value
    ∙ c.requires.index.first name in
    let rest =
    ap (λ (ts : List Table). take (length ts - k) (drop k ts)) c.deref-in-None.ensures.value ∙ take_rest tables k in
    c.find_in_tables.ensures ∙ ap (λ (ts : List Table). address_of (symbols_in file ts) name) rest
    ∙ sym (found_in_parts file tables k name ∙ or_none _ (address_of (symbols_in file (drop k tables)) name) none)
