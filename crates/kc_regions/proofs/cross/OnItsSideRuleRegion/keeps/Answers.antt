use Rattle.kc_regions.proofs.CrossLemmas.{side-test}
use Rattle.kc_regions.proofs.cross.OnItsSideRuleRegion.keeps.Goals as goal

pub returns : goal.returns
returns c = side-test c.args._earlier.now c.args.region.now c.is_on_side.result c.is_on_side.ensures
