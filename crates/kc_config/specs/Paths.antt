-- The path of a key in a description, as a fault prints it: `version`, `cpu.idt`, `region.3.at`. This project's own.
use Rattle.std.specs.Prelude.{codes, ℕ, List, [], ◌++◌}
use Rattle.std.specs.Fmt.{decimal}
use Rattle.kc_config.specs.declared.path.Place.{Place}
use Rattle.kc_config.specs.declared.path.Place.TheVariants.{AtTop, InCpu, InRegion, InGate, InHandler, InWord}

-- what stands before a table's own keys
abbrev pub prefix : Place → List ℕ
prefix AtTop = []
prefix InCpu = codes "cpu."
prefix (InRegion i) = codes "region." ++ decimal i ++ codes "."
prefix (InGate i) = codes "gate." ++ decimal i ++ codes "."
prefix (InHandler i) = codes "handler." ++ decimal i ++ codes "."
prefix (InWord i) = codes "word." ++ decimal i ++ codes "."

-- the path of a key of this table
abbrev pub path : Place → List ℕ → List ℕ
path place key = prefix place ++ key

-- the path of a region, counted from 0, and of the gate of a vector
abbrev pub region_path : ℕ → List ℕ
region_path i = codes "region." ++ decimal i

abbrev pub gate_path : ℕ → List ℕ
gate_path vector = codes "gate." ++ decimal vector
