use Rattle.std.proofs.Common.{◌≡◌, ◌+◌, ◌∷◌, ◌++◌, [], ◌<◌, length, length-append, ℕ, List, sym, ap, ◌∙◌, arith}
use Rattle.kc_regions.specs.Lookup.{gate_of}
use Rattle.kc_state.specs.AbsEvents.{is_gate}
use Rattle.kc_placed.proofs.ListLemmas.{passing, gathered-kept, gathered-left}
use Rattle.kc_placed.proofs.order.Vectors.add.Goals as goal
use Rattle.kc_placed.proofs.order.Vectors.add.Goals.{then-has_gate, else-has_gate}

-- this vector is added where its gate is of the kind
pub loop-v-preserved : goal.loop-v-preserved
loop-v-preserved g c =
    let test = λ (v : ℕ). is_gate (g.K.Kind.has c.args.kind.now) (gate_of c.args.cfg.now.gates v) in
    let v = c.loop-v.v in
    let lt : v < 256 = omega arith in
    elim c.if-has_gate.branch [
      | then-has_gate w ↦
          let is : c.if-has_gate.self ≡ c.loop-v.self ++ v ∷ [] = w.self-is ∙ w.push.ensures in
          record {
            all = ap (λ (l : List ℕ). l ++ passing test (v + 1)) is
                ∙ gathered-kept test c.loop-v.self v lt (sym c.has_gate.ensures ∙ w.if-has_gate.true)
                ∙ c.loop-v.invariant.all;
            count = omega (arith, ap length is, length-append c.loop-v.self (v ∷ []), c.loop-v.invariant.count);
          }
      | else-has_gate w ↦ record {
        all = ap (λ (l : List ℕ). l ++ passing test (v + 1)) w.self-is
            ∙ gathered-left test c.loop-v.self v lt (sym c.has_gate.ensures ∙ w.if-has_gate.false)
            ∙ c.loop-v.invariant.all;
        count = omega (arith, ap length w.self-is, c.loop-v.invariant.count);
      }
    ]
