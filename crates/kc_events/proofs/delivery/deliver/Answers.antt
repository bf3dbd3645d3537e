use Rattle.kc_events.proofs.delivery.deliver.Goals as goal

-- the vector's gate is the one that was looked up
pub returns-clause-end : goal.returns-clause-end
returns-clause-end c = rw c.gate_at-gate.ensures.gate c.deliver_through.ensures.end

pub returns-clause-accesses : goal.returns-clause-accesses
returns-clause-accesses c = rw c.gate_at-gate.ensures.gate c.deliver_through.ensures.accesses

pub returns-clause-processor : goal.returns-clause-processor
returns-clause-processor c = rw c.gate_at-gate.ensures.gate c.deliver_through.ensures.processor

pub returns-clause-latches : goal.returns-clause-latches
returns-clause-latches c = rw c.gate_at-gate.ensures.gate c.deliver_through.ensures.latches

pub returns-clause-bytes : goal.returns-clause-bytes
returns-clause-bytes c = rw c.gate_at-gate.ensures.gate c.deliver_through.ensures.bytes
