use Rattle.std.proofs.Common.{◌≡◌, drop, length, All}
use Rattle.kc_regions.specs.Ranges.{IsGateInRange}
use Rattle.kc_config.specs.declared.path.Place.TheVariants.{InGate}
use Rattle.kc_config.specs.Tables.{gate}
use Rattle.kc_config.specs.Reading.{add_table, each}
use Rattle.kc_config.specs.Seen.{tables_of}
use Rattle.kc_rules.specs.Rules.{over}
use Rattle.kc_config.proofs.reading.read_gates.Given as goal

-- what the tables left add to what was read is what all tables give; what was read is in its range
abbrev pub invariant-loop-i : goal.invariant-loop-i
invariant-loop-i l = record {
  read : over (add_table gate InGate l.image.symbols) l.gates.items (tables_of (drop l.i l.tables))
      ≡ each gate InGate l.image.symbols (tables_of l.tables);
  count : length l.gates.items ≡ l.i;
  in_range : All IsGateInRange l.gates.items;
}
