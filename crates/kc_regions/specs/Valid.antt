-- Valid descriptions: every value in its range, and every rule between them kept. This project's own.
use Rattle.kc_regions.specs.Description.{Description}
use Rattle.kc_regions.specs.Regions.{AreRegions}
use Rattle.kc_regions.specs.Ranges.{AreInRange}
use Rattle.kc_regions.specs.CrossRules.{CrossRules}

pub record IsValid (d : Description) : Type 0 where
  pub ranges : AreInRange d
  pub regions : AreRegions d.regions
  pub rules : CrossRules d
