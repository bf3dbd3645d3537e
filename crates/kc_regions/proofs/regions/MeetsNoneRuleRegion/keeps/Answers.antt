use Rattle.kc_regions.proofs.CrossLemmas.{apart-all}
use Rattle.kc_regions.proofs.regions.MeetsNoneRuleRegion.keeps.Goals as goal

pub returns : goal.returns
returns c = apart-all c.args.earlier.now c.args.region.now c.meets_none.result c.meets_none.ensures
