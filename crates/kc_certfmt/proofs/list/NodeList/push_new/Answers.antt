use Rattle.std.proofs.Common.{sym, ◌∙◌}
use Rattle.kc_certfmt.proofs.ListLemmas.{on-err, unpushed, unpushed-written, unpushed-seen}
use Rattle.kc_certfmt.proofs.list.NodeList.push_new.Goals as goal

-- the node was taken away again, and nothing was written
pub invariant_of-self-then-is_err : goal.invariant_of-self-then-is_err
invariant_of-self-then-is_err c =
    unpushed-written c.self.inside.nodes c.pop.new.self c.self.inside.written c.add.new.self c.self.invariant
    (unpushed c.self.inside.nodes c.push.new.self c.pop.new.self c.args.node c.pop.result
    c.in_ok-push-in-Gap.ensures.added c.pop.ensures.last)
    (on-err c.add.result (sym c.is_err.ensures.value ∙ c.if-is_err.true) c.add.ensures.unchanged)

pub returns-then-is_err : goal.returns-then-is_err
returns-then-is_err c = record {
  added = unpushed-seen c.self.inside.nodes c.pop.new.self c.self.inside.written c.add.new.self
      (unpushed c.self.inside.nodes c.push.new.self c.pop.new.self c.args.node c.pop.result
      c.in_ok-push-in-Gap.ensures.added c.pop.ensures.last)
      (on-err c.add.result (sym c.is_err.ensures.value ∙ c.if-is_err.true) c.add.ensures.unchanged)
      ∙ c.self.view_is;
}
