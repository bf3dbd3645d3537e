use Rattle.std.proofs.Common.{◌∙◌}
use Rattle.kc_cert.specs.Code.{insn_at}
use Rattle.kc_cert.specs.Conditions.{is_user_covered}
use Rattle.kc_check.proofs.CountedLemmas.{asked-some, asked-none}
use Rattle.kc_check.proofs.counted.is_covered_at.Goals as goal

pub returns-in-Some : goal.returns-in-Some
returns-in-Some c =
    c.is_user_covered.ensures
    ∙ asked-some (is_user_covered c.args.table.now.cert.now) c.args.context.now c.args.node.now
    (insn_at c.args.table.now.image.now c.args.node.now.site.at) c.in-Some.p c.in-Some.ensures

pub returns-in-None : goal.returns-in-None
returns-in-None c =
    asked-none (is_user_covered c.args.table.now.cert.now) c.args.context.now c.args.node.now
    (insn_at c.args.table.now.image.now c.args.node.now.site.at) c.in-None.ensures
