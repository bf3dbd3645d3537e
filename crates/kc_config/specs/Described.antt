-- How the code holds what it read, beside a description. Machinery.
use Rattle.kc_regions.specs.Description.{Description}
use Rattle.kc_config.specs.declared.reading.Parts.{Parts}

abbrev pub described : Parts → Description
described p = record {
  cpu = p.cpu;
  regions = p.regions.items;
  gates = p.gates.items;
  handlers = p.handlers.items;
  words = p.words.items;
}
