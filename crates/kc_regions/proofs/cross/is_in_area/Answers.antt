use Rattle.kc_regions.proofs.CrossLemmas.{area-test}
use Rattle.kc_regions.proofs.cross.is_in_area.Goals as goal

pub returns : goal.returns
returns c = area-test c.args.regions.now c.args.a c.args.n c.some_area_holds.result c.requires c.some_area_holds.ensures
