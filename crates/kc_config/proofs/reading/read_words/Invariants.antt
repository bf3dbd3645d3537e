use Rattle.std.proofs.Common.{◌≡◌, drop, length, All}
use Rattle.kc_regions.specs.Ranges.{IsWordInRange}
use Rattle.kc_config.specs.declared.path.Place.TheVariants.{InWord}
use Rattle.kc_config.specs.Tables.{tracked_word}
use Rattle.kc_config.specs.Reading.{add_table, each}
use Rattle.kc_config.specs.Seen.{tables_of}
use Rattle.kc_rules.specs.Rules.{over}
use Rattle.kc_config.proofs.reading.read_words.Given as goal

-- what the tables left add to what was read is what all tables give; what was read is in its range
abbrev pub invariant-loop-i : goal.invariant-loop-i
invariant-loop-i l = record {
  read : over (add_table tracked_word InWord l.image.symbols) l.words.items (tables_of (drop l.i l.tables))
      ≡ each tracked_word InWord l.image.symbols (tables_of l.tables);
  count : length l.words.items ≡ l.i;
  in_range : All IsWordInRange l.words.items;
}
