-- What was tested of a region's flags. Machinery.
use Rattle.std.specs.Prelude.{◌≡◌, true}
use Rattle.kc_regions.specs.declared.region.Kind.{Kind}
use Rattle.kc_config.specs.declared.region.Flags.{Flags}
use Rattle.kc_config.specs.Tables.{may_write, may_be_text, may_fault, may_be_marked}

pub record AreAllowed (kind : Kind) (f : Flags) : Type 0 where
  pub write : may_write kind f.write ≡ true
  pub exec : may_be_text kind f.exec ≡ true
  pub faults : may_fault kind f.may_fault ≡ true
  pub quiet : may_be_text kind f.quiet ≡ true
  pub marked : may_be_marked kind f.marked ≡ true
