use Rattle.kc_absevent.proofs.CoverLemmas.{entries_covered}
use Rattle.kc_absevent.proofs.delivery.deliver_user.Goals as goal

pub returns-clause-covers : goal.returns-clause-covers
returns-clause-covers c =
    entries_covered c.args.cfg.now c.args.user.now c.args.entry c.enter_from_user.result c.args.out.now
    c.enter_from_user.new.out c.tell.ensures.valid c.tell-2.ensures.valid c.enter_from_user.ensures.value
