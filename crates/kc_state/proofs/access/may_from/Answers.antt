use Rattle.std.proofs.Common.{sym, ◌∙◌, arith}
use Rattle.kc_state.proofs.ByteLemmas.{may_within}
use Rattle.kc_state.proofs.access.may_from.Goals as goal

-- the region of the first byte is that of each
pub returns-then-holds_bytes : goal.returns-then-holds_bytes
returns-then-holds_bytes c =
    c.may_region.ensures
    ∙ sym (may_within c.args.cfg.now c.args.map c.args.touch c.args.first.now c.args.a c.args.size
    c.tell.ensures.valid.regions c.requires (omega (arith, c.if-size-ne0.true))
    (c.holds_bytes.ensures c.if-holds_bytes.true))
