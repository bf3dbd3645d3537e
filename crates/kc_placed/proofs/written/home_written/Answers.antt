use Rattle.std.proofs.Common.{sym}
use Rattle.kc_placed.proofs.HomeLemmas.{home-below}
use Rattle.kc_placed.proofs.written.home_written.Goals as goal

pub add_stack-requires : goal.add_stack-requires
add_stack-requires c =
    home-below c.args.cfg.now c.tell.ensures.valid c.args.key.now c.in-Some.s c.requires.stack
    (sym c.in-Some.ensures.value)
