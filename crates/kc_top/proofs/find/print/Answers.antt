use Rattle.std.proofs.Common.{rules, ◌≢◌}
use Rattle.kc_top.specs.declared.status.Status.TheVariants.{NoMemory}
use Rattle.kc_top.proofs.VerdictLemmas.{prints-told}
use Rattle.kc_top.proofs.find.print.Goals as goal

-- memory didn't run out
pub returns-clause-told : goal.returns-clause-told
returns-clause-told g c =
    let some : c.print_checked-status.result ≢ NoMemory = search rules in
    prints-told c.args.loaded.now c.args.cert.now (g.S.Sink.state c.args.out.now)
    (g.S.Sink.state c.print_checked-status.new.out) c.print_checked-status.result some
    c.print_checked-status.ensures.printed
