use Rattle.std.proofs.Common.{rules}
use Rattle.kc_regions.specs.Lookup.{gate_of}
use Rattle.std.proofs.Common.{◌≡◌, Some}
use Rattle.kc_events.proofs.RangeLemmas.{ist-range}
use Rattle.kc_events.proofs.delivery.gate_at.Goals as goal

pub returns-clause-ist : goal.returns-clause-ist
returns-clause-ist c =
    let found : gate_of c.args.cfg.now.gates c.args.vector ≡ Some c.in-Some.gate = search rules in
    ist-range c.args.cfg.now c.args.vector c.in-Some.gate c.tell.ensures.valid found
