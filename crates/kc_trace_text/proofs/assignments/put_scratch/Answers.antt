use Rattle.std.proofs.Common.{◌∙◌, ap, sym, arith, ◌++◌, ◌<◌, length, List, ℕ}
use Rattle.kc_trace_text.proofs.LoopLemmas.{then_added, scratch_kept, scratch_added}
use Rattle.kc_trace_text.proofs.assignments.put_scratch.Goals as goal
use Rattle.kc_trace_text.proofs.assignments.put_scratch.Goals.{then-not-is_given_back, else-not-is_given_back}

-- one register more, or none
pub loop-number-preserved : goal.loop-number-preserved
loop-number-preserved c =
    let i = c.loop-number.number in
    let regs : List ℕ = c.args.regs.now in
    let line : List ℕ = c.args.line.now.items in
    let within : i < length regs = omega (arith, c.loop-number-test.true, c.told-regs) in
    let is = sym c.is_given_back.ensures.is in
    elim c.if-not-is_given_back.branch [
      | then-not-is_given_back w ↦
          let text = rw w.register_name.ensures.name at w.put_assignment.ensures.text in
          rw w.line-is (record {
            text = then_added _ _ _ _ _ _ c.loop-number.invariant.text text
                (scratch_added regs i _ within (is ∙ w.if-not-is_given_back.true));
            long = omega (
              arith,
              c.loop-number.invariant.long,
              w.put_assignment.ensures.len,
              w.register_name.ensures.short,
            );
          })
      | else-not-is_given_back w ↦
          rw w.line-is (record {
            text =
                c.loop-number.invariant.text
                ∙ ap (λ t. line ++ t) (sym (scratch_kept regs i 0 within (is ∙ w.if-not-is_given_back.false)));
            long = omega (arith, c.loop-number.invariant.long);
          })
    ]
