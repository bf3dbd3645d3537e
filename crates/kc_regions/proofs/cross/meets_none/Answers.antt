use Rattle.kc_regions.proofs.CrossLemmas.{none-test}
use Rattle.kc_regions.proofs.cross.meets_none.Goals as goal

pub returns : goal.returns
returns c = none-test c.args.words.now c.args.at c.meets_one.result c.meets_one.ensures
