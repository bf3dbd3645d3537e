-- The description of a kernel as contracts see it. This project's own.
use Rattle.std.specs.Prelude.{List}
use Rattle.kc_regions.specs.declared.region.Region.{Region}
use Rattle.kc_regions.specs.declared.entry.Gate.{Gate}
use Rattle.kc_regions.specs.declared.entry.Handler.{Handler}
use Rattle.kc_regions.specs.declared.entry.Word.{Word}
use Rattle.kc_regions.specs.declared.cpu.CpuSetup.{CpuSetup}

-- the processor's setup, and the lists in the order given
pub record Description : Type 0 where
  pub cpu : CpuSetup
  pub regions : List Region
  pub gates : List Gate
  pub handlers : List Handler
  pub words : List Word

abbrev pub of_parts : CpuSetup → List Region → List Gate → List Handler → List Word → Description
of_parts cpu regions gates handlers words =
    record { cpu = cpu; regions = regions; gates = gates; handlers = handlers; words = words }
