use Rattle.std.proofs.Common.{◌≡◌, ◌↔◌, ℕ, IsTrue, List, All, subst, sym, ◌∙◌}
use Rattle.std.proofs.lemmas.Bool.{false≢true}
use Rattle.kc_events.specs.Allowed.{MayWrite}
use Rattle.kc_events.proofs.handler.may_set.Goals as goal

-- some byte of the set is not the handler's to write
pub returns-else-may_write_all : goal.returns-else-may_write_all
returns-else-may_write_all c =
    let bytes = subst (λ (ws : List (ℕ × ℕ)). IsTrue c.may_write_all.result
    ↔ All (λ w. MayWrite c.args.cfg.now c.args.call.now c.args.handler.now.stack c.args.stack.now w.0) ws)
    c.as_slice.ensures.items c.may_write_all.ensures in
    (λ t. absurd (false≢true (sym c.if-may_write_all.false ∙ t)), λ h. bytes.1 h.writes)
