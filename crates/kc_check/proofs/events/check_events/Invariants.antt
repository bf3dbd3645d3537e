use Rattle.std.proofs.Common.{◌≡◌, drop}
use Rattle.std.specs.Prelude.{IfSome}
use Rattle.kc_check.specs.Events.{IsKept, events_refusal}
use Rattle.kc_check.proofs.EventLemmas.{events_left}
use Rattle.kc_check.proofs.events.check_events.Given as goal

abbrev pub invariant-loop-vector : goal.invariant-loop-vector
invariant-loop-vector l = record {
  -- the events that are left, with those that failed, answer as all events do
  left : events_left (record {
    image = l.table.image.now;
    d = l.table.cfg.now;
    cert = l.table.cert.now;
    c = l.context;
    n = l.node;
    p = l.p;
  }) l.asked.kept l.asked.counted (drop l.vector-index l.vector-items)
      ≡ events_refusal l.table.image.now l.table.cfg.now l.table.cert.now l.context l.node l.p;
  last : IfSome l.asked.last (IsKept l.table.cfg.now l.p);
}
