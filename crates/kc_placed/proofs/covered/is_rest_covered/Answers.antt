use Rattle.std.proofs.Common.{◌-◌, ◌∙◌, drop, refl, arith}
use Rattle.kc_frames.proofs.ChangeLemmas.{rest_below}
use Rattle.kc_value.specs.AbsValue.{AbsValue}
use Rattle.kc_value.specs.Value.{value_below}
use Rattle.kc_placed.proofs.covered.is_rest_covered.Goals as goal

-- all of it is one value on both sides
pub returns-then-keeps : goal.returns-then-keeps
returns-then-keeps g c =
    let i = c.args.i in
    let x : AbsValue = c.in_ok-x.x.now in
    let y : AbsValue = c.in_ok-y.y.now in
    record {
      value = c.leq.ensures.value
          ∙ rest_below (g.C.Change.changed c.args.change.now) value_below i (296 - i) x y (drop i c.args.old.now)
          (drop i c.args.slots.now) (omega (arith, c.requires))
          (λ j low high. c.if-keeps.ensures.same refl j low (omega (arith, high, c.requires))) c.in_ok-x.ensures.value
          c.in_ok-y.ensures.value;
    }
