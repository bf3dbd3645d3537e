use Rattle.std.proofs.Common.{◌≡◌, ap, sym, ◌∙◌, arith}
use Rattle.std.specs.Ordering.{is_eq}
use Rattle.kc_cert.proofs.KeyLemmas.{number-found, number-absent}
use Rattle.kc_cert.proofs.lookup.index_of.Goals as goal
use Rattle.kc_cert.proofs.lookup.index_of.Goals.{else-at-contexts-via-then-at-contexts+else-is_eq, else-at-contexts-via-else-at-contexts}

pub returns-then-is_eq-clause-value : goal.returns-then-is_eq-clause-value
returns-then-is_eq-clause-value c =
    number-found c.args.contexts.now c.args.key.now c.first_context-at.result c.first_context-at.ensures
    c.if-at-contexts.true
    (sym (ap is_eq (c.key_order_at.ensures c.args.key.now)) ∙ sym c.is_eq.ensures ∙ c.if-is_eq.true)

pub returns-else-at-contexts-clause-value : goal.returns-else-at-contexts-clause-value
returns-else-at-contexts-clause-value c =
    elim c.else-at-contexts.branch [
      | else-at-contexts-via-then-at-contexts+else-is_eq w ↦
          number-absent c.args.contexts.now c.args.key.now c.first_context-at.result c.requires c.first_context-at.ensures
          (λ fits. sym (ap is_eq (w.key_order_at.ensures c.args.key.now)) ∙ sym w.is_eq.ensures ∙ w.if-is_eq.false)
      | else-at-contexts-via-else-at-contexts w ↦
          number-absent c.args.contexts.now c.args.key.now c.first_context-at.result c.requires c.first_context-at.ensures
          (λ fits. absurd (omega (arith, fits, w.if-at-contexts.false)))
    ]
