use Rattle.std.proofs.Common.{sym, ap, ◌∙◌}
use Rattle.kc_image.specs.declared.elf.SymbolEntry.{SymbolEntry}
use Rattle.kc_image.proofs.SymbolLemmas.{entry_zero, entry_named}
use Rattle.kc_image.proofs.sections.check_entry.Goals as goal

pub returns-then-place-eq0 : goal.returns-then-place-eq0
returns-then-place-eq0 c =
    let name = ap (λ (s : SymbolEntry). s.st_name) c.read_symbol_entry-place.ensures in
    entry_zero c.args.file.now c.args.strings.now c.args.at (sym name ∙ c.if-place-eq0.true)

pub returns : goal.returns
returns c =
    let name = ap (λ (s : SymbolEntry). s.st_name) c.read_symbol_entry-place.ensures in
    entry_named c.args.file.now c.args.strings.now c.args.at c.read_symbol_entry-place.result.st_name
    c.refuse_if.result name c.if-place-eq0.false c.refuse_if.ensures
