use Rattle.kc_machine.proofs.OneRegionLemmas.{last-live, live-last}
use Rattle.kc_machine.proofs.judge.has_live_byte.Goals as goal

-- the last byte is live, if any is
pub returns-then-are_in_one : goal.returns-then-are_in_one
returns-then-are_in_one c =
    let cfg = c.args.cfg.now in
    let one = c.are_in_one.ensures.0 c.if-are_in_one.true in (
      λ t. live-last cfg c.tell.ensures.valid c.args.at c.args.size one c.args.chain.now (c.is_live.ensures.is.0 t),
      λ h. c.is_live.ensures.is.1 (last-live cfg c.tell.ensures.valid c.args.at c.args.size one c.args.chain.now h),
    )
