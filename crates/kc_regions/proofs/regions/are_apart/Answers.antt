use Rattle.kc_regions.proofs.CrossLemmas.{apart-test}
use Rattle.kc_regions.proofs.regions.are_apart.Goals as goal

pub returns : goal.returns
returns c = apart-test c.args.one.now.span c.args.other.now.span c.meets.result c.meets.ensures.is
