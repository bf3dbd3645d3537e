use Rattle.std.proofs.Common.{Some, None, sym, subst}
use Rattle.kc_state.specs.AbsDelivery.{user_delivery, syscall_key}
use Rattle.kc_state.specs.WellFormed.{IsStateWellFormed, IsUserWellFormed}
use Rattle.kc_state.specs.declared.key.Key.{Key}
use Rattle.kc_state.specs.declared.state.AbsState.{AbsState}
use Rattle.kc_absevent.proofs.EntryForms.{user_entry_is, ends_keyed, ends_formed}
use Rattle.kc_absevent.proofs.delivery.enter_from_user.Goals as goal

pub returns-in-Some-clause-key : goal.returns-in-Some-clause-key
returns-in-Some-clause-key c =
    let d = c.args.cfg.now in
    let u = c.args.user.now in
    let v = c.in-Some.v in
    ends_keyed d (IsUserWellFormed u) c.deliver_user_vector.result c.args.out.now c.deliver_user_vector.new.out
    (user_delivery d u v) c.deliver_user_vector.ensures (user_entry_is d u (Some v))

pub returns-in-Some-clause-well_formed : goal.returns-in-Some-clause-well_formed
returns-in-Some-clause-well_formed c =
    let d = c.args.cfg.now in
    let u = c.args.user.now in
    let v = c.in-Some.v in
    ends_formed d (IsUserWellFormed u) c.deliver_user_vector.result c.args.out.now c.deliver_user_vector.new.out
    (user_delivery d u v) c.deliver_user_vector.ensures (user_entry_is d u (Some v))

pub returns-in-None-clause-well_formed : goal.returns-in-None-clause-well_formed
returns-in-None-clause-well_formed c =
    let d = c.args.cfg.now in
    let u = c.args.user.now in
    λ f. subst (λ (k : Key). IsStateWellFormed d k c.enter_syscall.new.out) (sym c.enter_syscall.ensures.key)
    (subst (λ (s : AbsState). IsStateWellFormed d (syscall_key d u) s) (sym c.enter_syscall.ensures.state)
    ((user_entry_is d u None).1 f))
