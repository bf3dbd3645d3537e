use Rattle.std.proofs.Common.{◌∙◌}
use Rattle.kc_state.specs.AbsEvents.{comes}
use Rattle.kc_find.proofs.events.want_events.Goals as goal

-- the node as its conditions read it
pub want_vector-requires-clause-events : goal.want_vector-requires-clause-events
want_vector-requires-clause-events c v below =
    let p = c.p.view_is in
    c.events_at-events.ensures.value v below
    ∙ (λ k. comes c.args.cfg.now (p k).key (p k).site (p k).state (p k).insn (p k).len v)
