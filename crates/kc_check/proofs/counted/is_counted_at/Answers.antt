use Rattle.std.proofs.Common.{◌∙◌}
use Rattle.kc_cert.specs.Code.{insn_at}
use Rattle.kc_cert.specs.Conditions.{is_node_counted}
use Rattle.kc_check.proofs.ContextLemmas.{key-stack, placed-stack}
use Rattle.kc_check.proofs.CountedLemmas.{asked-some, asked-none}
use Rattle.kc_check.proofs.counted.is_counted_at.Goals as goal

pub is_node_counted-requires : goal.is_node_counted-requires
is_node_counted-requires c =
    let t = c.args.table.now in record {
      stack = placed-stack t.cfg.now c.args.context.now c.args.node.now (insn_at t.image.now c.args.node.now.site.at)
          c.in-Some.p c.in-Some.ensures (key-stack t.cfg.now t.cert.now c.args.context.now.key t.form c.requires.key);
    }

pub returns-in-Some : goal.returns-in-Some
returns-in-Some c =
    c.is_node_counted.ensures
    ∙ asked-some (is_node_counted c.args.table.now.cfg.now c.args.context.now.summary) c.args.context.now c.args.node.now
    (insn_at c.args.table.now.image.now c.args.node.now.site.at) c.in-Some.p c.in-Some.ensures

pub returns-in-None : goal.returns-in-None
returns-in-None c =
    asked-none (is_node_counted c.args.table.now.cfg.now c.args.context.now.summary) c.args.context.now c.args.node.now
    (insn_at c.args.table.now.image.now c.args.node.now.site.at) c.in-None.ensures
