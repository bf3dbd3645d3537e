use Rattle.std.proofs.Common.{◌≡◌, ℕ, length, drop}
use Rattle.kc_cert.specs.Conditions.{is_return_node, returns}
use Rattle.kc_check.proofs.MarkLemmas.{marked_or_left}
use Rattle.kc_check.proofs.returning.Returning.of.Given as goal

-- a context returns where it is marked, or where one of the nodes that are left says so
abbrev pub invariant-loop-node : goal.invariant-loop-node
invariant-loop-node l = record {
  count : length l.all ≡ 1024;
  marks : (i : ℕ) → marked_or_left (is_return_node l.image) l.all (drop l.node-index l.cert.nodes) i
      ≡ returns l.image l.cert i;
}
