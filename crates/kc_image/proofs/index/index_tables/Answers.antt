use Rattle.std.proofs.Common.{length, take, ap, arith, ◌∙◌}
use Rattle.kc_image.specs.Image.{Symbols, address_of}
use Rattle.kc_image.proofs.SymbolLemmas.{tables_length, spelled_length}
use Rattle.kc_image.proofs.index.index_tables.Goals as goal

pub returns : goal.returns
returns c =
    let file = c.args.file.now in
    let tables = take c.tables_within-count.result c.args.tables.now in
    let read = c.in_ok-names.names.items in
    let within = c.tables_within-count.ensures in
    let sorted = c.in_ok-names-2.ensures in
    let count = ap (λ (symbols : Symbols). length symbols) c.in_ok-names.ensures in
    record {
      within = within.within;
      small =
          omega (
            arith,
            sorted.count,
            count,
            spelled_length file read,
            tables_length file tables,
            within.bound,
          );
      whole = λ fits. within.whole (omega (arith, fits));
      sorted = sorted.sorted;
      first = λ name. sorted.first name ∙ ap (λ (symbols : Symbols). address_of symbols name) c.in_ok-names.ensures;
    }
