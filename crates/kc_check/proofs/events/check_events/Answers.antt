-- At each vector the events that are left become those after it: one that doesn't come is skipped, and one that comes is
-- refused by C14 or kept where C15 or C16 fails.
use Rattle.std.proofs.Common.{◌≡◌, ℕ, ◌+◌, ◌<◌, ◌≤◌, Bool, true, false, List, None, Err, length, get_or, drop, sym, ap, ◌∙◌, subst, arith}
use Rattle.std.proofs.lemmas.Result.{err_from_is_err_and}
use Rattle.std.specs.Prelude.{IfSome, is_some}
use Rattle.kc_absevent.specs.Sets.{IsSetOf, has_vector}
use Rattle.kc_regions.specs.Description.{Description}
use Rattle.kc_regions.specs.Lookup.{gate_of}
use Rattle.kc_state.specs.AbsDelivery.{delivery}
use Rattle.kc_state.specs.AbsEvents.{comes}
use Rattle.kc_cert.specs.Placed.{Placed, entered_by}
use Rattle.kc_check.specs.declared.events.Asked.{Asked}
use Rattle.kc_check.specs.Events.{IsKept}
use Rattle.kc_check.proofs.EventLemmas.{AtNode, comes_by_gate, events_left, left-all, left-end, left-failed, left-next, left-skipped, may_come}
use Rattle.kc_check.proofs.events.check_events.Goals as goal
use Rattle.kc_check.proofs.events.check_events.Goals.{then-has+in_ok-asked, else-has}

-- what the set of events says of a vector
came : (x : AtNode) (q : Placed) (words : List ℕ) (v : ℕ) (b : Bool) → q ≡ x.p
    → IsSetOf words (comes x.d q.key q.site q.state q.insn q.len) → v < 256 → has_vector words v ≡ b → may_come x v ≡ b
came x q words v b e set below has =
    subst (λ (r : Placed). comes x.d r.key r.site r.state r.insn r.len v ≡ b) e (sym (set v below) ∙ has)

pub loop-vector-init : goal.loop-vector-init
loop-vector-init c =
    let t = c.args.table.now in
    let x : AtNode = record {
      image = t.image.now;
      d = t.cfg.now;
      cert = t.cert.now;
      c = c.args.context.now;
      n = c.args.node.now;
      p = c.args.p.now;
    } in
    record {
      left = ap (events_left x None None) (c.as_slice-vector-items.ensures.items ∙ t.vectors_in_order) ∙ left-all x;
      last = tt;
    }

pub ask_event-requires-clause-here : goal.ask_event-requires-clause-here
ask_event-requires-clause-here c =
    let d = c.args.table.now.cfg.now in
    let of = c.of-interruption.ensures in
    λ v. (λ j. delivery (of.cfg j) (of.key j) (of.site j) (of.state j) (of.insn j) v)
    ∙ ap (λ (p : Placed). entered_by d p v) c.p.view_is

pub ask_event-requires-clause-gate : goal.ask_event-requires-clause-gate
ask_event-requires-clause-gate c =
    let t = c.args.table.now in
    let p = c.p.inside in
    let i = c.loop-vector.vector-index in
    let vs = c.as_slice-vector-items.result.now in
    let v = get_or vs i 0 in
    let below : v < 256 = omega (arith, c.type_inv.vector-items i) in
    let comes_here : comes t.cfg.now p.key.now p.site p.state.now p.insn p.len v ≡ true =
    sym (c.events_at-events.ensures.value v below) ∙ sym c.has.ensures.value ∙ c.if-has.true in
    subst (λ (d : Description). is_some (gate_of d.gates v) ≡ true) (sym c.of-interruption.ensures.cfg)
    (comes_by_gate _ _ comes_here)

pub returns-in_err-asked : goal.returns-in_err-asked
returns-in_err-asked c =
    let t = c.args.table.now in
    let x : AtNode = record {
      image = t.image.now;
      d = t.cfg.now;
      cert = t.cert.now;
      c = c.args.context.now;
      n = c.args.node.now;
      p = c.args.p.now;
    } in
    let p = c.p.inside in
    let i = c.loop-vector.vector-index in
    let vs = c.as_slice-vector-items.result.now in
    let v = get_or vs i 0 in
    let below : v < 256 = omega arith in
    let fits : i < length vs = omega arith in
    let comes_here = came x
    (record { key = p.key.now; site = p.site; state = p.state.now; insn = p.insn; len = p.len })
    c.events_at-events.result.vectors v true c.p.view_is c.events_at-events.ensures.value below
    (sym c.has.ensures.value ∙ c.if-has.true) in
    let f = c.loop-vector.asked in
    let exit = err_from_is_err_and c.from_residual.result c.from_residual.ensures.1 in
    rw (exit.1, exit.2)
    (ap Err c.in_err-asked.ensures.refused
    ∙ sym (left-failed x f.kept f.counted vs i fits comes_here c.in_err-asked.ensures.uncovered)
    ∙ c.loop-vector.invariant.left)

pub loop-vector-preserved : goal.loop-vector-preserved
loop-vector-preserved c =
    let t = c.args.table.now in
    let x : AtNode = record {
      image = t.image.now;
      d = t.cfg.now;
      cert = t.cert.now;
      c = c.args.context.now;
      n = c.args.node.now;
      p = c.args.p.now;
    } in
    let p = c.p.inside in
    let q : Placed = record { key = p.key.now; site = p.site; state = p.state.now; insn = p.insn; len = p.len } in
    let i = c.loop-vector.vector-index in
    let f = c.loop-vector.asked in
    let vs = c.as_slice-vector-items.result.now in
    let v = get_or vs i 0 in
    let below : v < 256 = omega (arith, c.type_inv.vector-items i) in
    let fits : i < length vs = omega arith in
    elim c.if-has.branch [
      | then-has+in_ok-asked w ↦
          let comes_here = came x q c.events_at-events.result.vectors v true c.p.view_is
          c.events_at-events.ensures.value below (sym c.has.ensures.value ∙ w.if-has.true) in
          let kept = ap (λ (s : Asked). s.kept) w.asked-is ∙ w.in_ok-asked.ensures.kept in
          let counted = ap (λ (s : Asked). s.counted) w.asked-is ∙ w.in_ok-asked.ensures.counted in
          record {
            left = (λ j. events_left x (kept j) (counted j) (drop (i + 1) vs))
                ∙ sym (left-next x f.kept f.counted vs i fits comes_here w.in_ok-asked.ensures.covered)
                ∙ c.loop-vector.invariant.left;
            last = subst (λ (s : Asked). IfSome s.last (IsKept t.cfg.now c.args.p.now)) (sym w.asked-is)
                w.in_ok-asked.ensures.last;
          }
      | else-has w ↦
          let comes_here = came x q c.events_at-events.result.vectors v false c.p.view_is
          c.events_at-events.ensures.value below (sym c.has.ensures.value ∙ w.if-has.false) in
          record {
            left = (λ j. events_left x (w.asked-is j).kept (w.asked-is j).counted (drop (i + 1) vs))
                ∙ sym (left-skipped x f.kept f.counted vs i fits comes_here)
                ∙ c.loop-vector.invariant.left;
            last = subst (λ (s : Asked). IfSome s.last (IsKept t.cfg.now c.args.p.now)) (sym w.asked-is)
                c.loop-vector.invariant.last;
          }
    ]

pub returns : goal.returns
returns c =
    let t = c.args.table.now in
    let x : AtNode = record {
      image = t.image.now;
      d = t.cfg.now;
      cert = t.cert.now;
      c = c.args.context.now;
      n = c.args.node.now;
      p = c.args.p.now;
    } in
    let i = c.loop-vector.vector-index in
    let f = c.loop-vector.asked in
    let vs = c.as_slice-vector-items.result.now in
    let done : length vs ≤ i = omega arith in
    c.answer.ensures ∙ sym (left-end x f.kept f.counted vs i done) ∙ c.loop-vector.invariant.left
