use Rattle.std.proofs.Common.{ap, ◌∙◌}
use mir.Val.{of_z}
use mir.Syntax.{w64}
use Rattle.kc_state.specs.Shift.{shifted}
use Rattle.kc_state.proofs.ShiftLemmas.{minus_is}
use Rattle.kc_state.proofs.shifts.shift_down.Goals as goal

pub returns-else-c-eqminus9223372036854775808 : goal.returns-else-c-eqminus9223372036854775808
returns-else-c-eqminus9223372036854775808 c = record {
  value =
      c.shift.ensures.value ∙ ap (λ z. shifted c.args.cfg.now c.args.key.now c.args.v.now z)
      (minus_is c.args.c (record { sfits = c.ranges.c.sfits }) (λ e. c.if-c-eqminus9223372036854775808.false
      (ap (of_z w64) e)));
}
