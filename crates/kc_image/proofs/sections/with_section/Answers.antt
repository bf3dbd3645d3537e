use Rattle.std.proofs.Common.{sym, ap, Ok, ◌∙◌}
use Rattle.std.proofs.lemmas.List.Elements.{All-push}
use Rattle.kc_image.specs.SymbolSteps.{IsTable, symbols_in}
use Rattle.kc_image.proofs.SymbolLemmas.{symbols_in_push, section_adds}
use Rattle.kc_image.proofs.sections.with_section.Goals as goal

pub returns-clause-symbols : goal.returns-clause-symbols
returns-clause-symbols c =
    let file = c.args.file.now in
    let earlier = symbols_in file c.args.tables.items in
    let pushed =
    ap (symbols_in file) c.in_ok-push.ensures.items ∙ symbols_in_push file c.args.tables.items c.in_ok-table.table in
    section_adds file c.args.header.now earlier c.args.at c.read_section_header-section.result _
    c.read_section_header-section.ensures c.if-section-ne-SHT_SYMTAB.false
    (c.in_ok-table.ensures.symbols earlier ∙ ap Ok (sym pushed))

pub returns-clause-valid : goal.returns-clause-valid
returns-clause-valid c =
    rw c.in_ok-push.ensures.items
    (All-push (IsTable c.args.file.now) c.args.tables.items c.in_ok-table.table c.requires.earlier
    c.in_ok-table.ensures.valid)
