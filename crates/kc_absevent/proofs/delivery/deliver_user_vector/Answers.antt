use Rattle.std.proofs.Common.{◌≡◌, None, false, sym, ap, ◌∙◌, subst}
use Rattle.kc_regions.specs.declared.entry.Gate.{Gate}
use Rattle.kc_state.specs.AbsDelivery.{interrupted_user, stack_taken, chosen_rsp, delivered_at, by_gate, user_delivery}
use Rattle.kc_absevent.specs.Ends.{Delivers}
use Rattle.kc_absevent.proofs.delivery.deliver_user_vector.Goals as goal

-- through the gate that the vector has, from the RSP that it takes
pub returns : goal.returns
returns c =
    let d = c.args.cfg.now in
    let u = c.args.user.now in
    let gate = c.gate_at-gate.result in
    let rsp : c.choose_rsp-chosen.result ≡ chosen_rsp u.slots None (stack_taken gate.ist false) =
    c.choose_rsp-chosen.ensures ∙ ap (chosen_rsp u.slots None) c.choose_word.ensures.value in
    let same : delivered_at d c.interrupt_user-i.result u.slots gate c.choose_rsp-chosen.result
    ≡ user_delivery d u c.args.vector =
    (λ j. delivered_at d (c.interrupt_user-i.ensures.value j) u.slots gate (rsp j))
    ∙ sym (ap (by_gate (λ (g : Gate). delivered_at d (interrupted_user d u) u.slots g
    (chosen_rsp u.slots None (stack_taken g.ist false)))) c.gate_at-gate.ensures.gate) in
    subst (Delivers c.put_entry.result c.args.out.now c.put_entry.new.out) (c.deliver_at.ensures ∙ same) c.put_entry.ensures
