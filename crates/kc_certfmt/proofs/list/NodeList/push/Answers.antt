use Rattle.kc_certfmt.proofs.ListLemmas.{pushed-written, pushed-seen}
use Rattle.kc_certfmt.proofs.list.NodeList.push.Goals as goal

pub invariant_of-self : goal.invariant_of-self
invariant_of-self c =
    pushed-written c.push.result c.self.inside.nodes c.push.new.self c.args.node c.self.inside.written c.self.invariant
    c.push.ensures.added c.push.ensures.unchanged

pub returns-clause-added : goal.returns-clause-added
returns-clause-added c =
    pushed-seen c.push.result c.self.inside.nodes c.push.new.self c.args.node c.self.inside.written c.args.self.now
    c.self.invariant c.self.view_is c.push.ensures.added
