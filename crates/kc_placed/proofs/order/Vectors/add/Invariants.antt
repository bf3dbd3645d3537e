use Rattle.std.proofs.Common.{◌≡◌, ◌+◌, ◌++◌, ◌≤◌, length}
use Rattle.kc_regions.specs.Lookup.{gate_of}
use Rattle.kc_state.specs.AbsEvents.{is_gate}
use Rattle.kc_cert.specs.Placed.{vectors_of}
use Rattle.kc_placed.proofs.ListLemmas.{passing}
use Rattle.kc_placed.proofs.order.Vectors.add.Given as goal

-- the vectors so far and those that are left are all
abbrev pub invariant-loop-v : goal.invariant-loop-v
invariant-loop-v g l = record {
  all : l.self ++ passing (λ v. is_gate (g.K.Kind.has l.kind) (gate_of l.cfg.gates v)) l.v
      ≡ l.initial.self ++ vectors_of l.cfg (g.K.Kind.has l.kind);
  count : length l.self ≤ length l.initial.self + l.v;
}
