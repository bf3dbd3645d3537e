-- What nodes have written stays where more nodes come after them, since each number is one of theirs; and each written
-- state is that of the node with its number.
use Rattle.std.proofs.Common.{◌≡◌, ℕ, ◌<◌, ◌≤◌, List, [], ◌++◌, length, map, Option, Some, None, sym, ap, ◌∙◌, subst, arith}
use Rattle.std.specs.Prelude.{slice_get, option_map}
use Rattle.std.proofs.lemmas.List.{length-append, length-map}
use Rattle.std.proofs.lemmas.List.Elements.{All-weaker}
use Rattle.std.proofs.lemmas.Option.{slice_get-map, slice_get_past}
use Rattle.kc_state.specs.declared.state.AbsState.{AbsState}
use Rattle.kc_cert.specs.Table.{RisesBy}
use Rattle.kc_cert.specs.declared.certificate.Node.{Node}
use Rattle.kc_certform.specs.Numbers.{state_order}
use Rattle.kc_certform.specs.Written.{WrittenNodes, IsWritten, items_at, written_states}
use Rattle.kc_certform.proofs.PickLemmas.{picked-long, picked-kept, picked-got}

-- nothing is written yet
pub none-written : (nodes : List Node) → IsWritten nodes (record { nodes = []; sorted = [] })
none-written nodes = record {
  named = λ k d lt. absurd (omega (arith, lt));
  few = omega arith;
  within = λ k d lt. absurd (omega (arith, lt));
  each = λ i lt. absurd (omega (arith, lt));
  rises = λ i j d lt fits. absurd (omega (arith, fits));
}

pub states-long : (nodes : List Node) (w : WrittenNodes) → IsWritten nodes w
    → length (written_states nodes w) ≡ length w.nodes
states-long nodes w is = length-map (items_at nodes w.nodes) (λ n. n.state) ∙ picked-long nodes w.nodes is.named

-- more nodes come after these
pub states-kept : (nodes more : List Node) (w : WrittenNodes) → IsWritten nodes w
    → written_states (nodes ++ more) w ≡ written_states nodes w
states-kept nodes more w is = ap (λ (l : List Node). map (λ n. n.state) l) (picked-kept nodes more w.nodes is.named)

pub written-kept : (nodes more : List Node) (w : WrittenNodes) → IsWritten nodes w → IsWritten (nodes ++ more) w
written-kept nodes more w is = record {
  named = All-weaker (λ (k : ℕ). k < length nodes) (λ (k : ℕ). k < length (nodes ++ more))
      (λ k lt. omega (arith, lt, length-append nodes more)) w.nodes is.named;
  few = omega (arith, is.few, length-append nodes more);
  within = is.within;
  each = is.each;
  rises = subst (λ (l : List AbsState). RisesBy state_order (items_at l w.sorted))
      (sym (states-kept nodes more w is)) is.rises;
}

-- the state with this number, counted from 0
pub state-got : (nodes : List Node) (w : WrittenNodes) (i k : ℕ) (n : Node) → IsWritten nodes w
    → slice_get w.nodes i ≡ Some k → slice_get nodes k ≡ Some n
    → slice_get (written_states nodes w) i ≡ Some n.state
state-got nodes w i k n is number node =
    slice_get-map (λ (m : Node). m.state) (items_at nodes w.nodes) i
    ∙ ap (λ (o : Option Node). option_map (λ (m : Node). m.state) o)
    (picked-got nodes w.nodes i k n is.named number node)

-- there are no more
pub state-past : (nodes : List Node) (w : WrittenNodes) (i : ℕ) → IsWritten nodes w → length w.nodes ≤ i
    → slice_get (written_states nodes w) i ≡ None
state-past nodes w i is past =
    slice_get_past (written_states nodes w) i (omega (arith, past, states-long nodes w is))
