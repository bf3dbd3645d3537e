use Rattle.std.proofs.Common.{sym}
use Rattle.kc_image.proofs.SymbolLemmas.{table_is}
use Rattle.kc_image.proofs.sections.read_table.Goals as goal

pub check_entries-requires : goal.check_entries-requires
check_entries-requires c =
    table_is c.args.file.now c.args.section.now c.in_ok-strings.strings c.args.at _ (sym c.if-passes_end.ensures)
    c.in_ok-strings.ensures.ended

pub returns-clause-valid : goal.returns-clause-valid
returns-clause-valid c =
    table_is c.args.file.now c.args.section.now c.in_ok-strings.strings c.args.at _ (sym c.if-passes_end.ensures)
    c.in_ok-strings.ensures.ended
