use Rattle.std.proofs.Common.{ℕ, List, drop, ap, sym, ◌∙◌}
use Rattle.kc_image.specs.FirstFault.{text, is_kept_name}
use Rattle.kc_image.specs.SymbolSteps.{strings_in}
use Rattle.kc_image.proofs.SymbolLemmas.{symbol_read}
use Rattle.kc_image.proofs.tables.read_symbol.Goals as goal

pub returns : goal.returns
returns c =
    let strings = strings_in c.args.file.now c.args.table.now in
    let same = ap (λ (s : List ℕ). is_kept_name (text (drop c.from.result s))) (sym c.read_strings.ensures) in
    let place = ap (λ (k : ℕ). is_kept_name (text (drop k c.read_strings.result.now))) c.from.ensures in
    symbol_read c.args.file.now c.args.table.now c.args.at c.from.result c.read_symbol_entry-entry.result
    c.requires.table c.read_symbol_entry-entry.ensures c.from.ensures c.if-entry-eq-SHN_UNDEF.false
    (same ∙ place ∙ sym c.if-not-is_kept.ensures)
