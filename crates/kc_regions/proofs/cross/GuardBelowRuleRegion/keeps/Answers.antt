use Rattle.std.proofs.Common.{rules}
use Rattle.kc_regions.proofs.CrossLemmas.{guard-test}
use Rattle.kc_regions.proofs.cross.GuardBelowRuleRegion.keeps.Goals as goal

pub returns-else-not-is_stack : goal.returns-else-not-is_stack
returns-else-not-is_stack c = guard-test c.args.self.now.regions.now c.args._earlier.now c.args.region.now
    c.has_guard.result c.has_guard.ensures (search rules)
