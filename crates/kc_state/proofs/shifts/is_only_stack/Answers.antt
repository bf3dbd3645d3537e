use Rattle.std.proofs.Common.{◌≢◌, ◌^◌, ◌≤◌, sym, ap, ◌∙◌, arith}
use Rattle.std.proofs.Math.Pow.{pow_mono}
use Rattle.std.proofs.lemmas.Bool.{ne_eqb}
use Rattle.kc_state.specs.Shift.{is_only_stack}
use Rattle.kc_state.proofs.shifts.is_only_stack.Goals as goal

-- no set of 17 places is that of a stack from 17 on alone
pub returns-in_default : goal.returns-in_default
returns-in_default c =
    let s = c.in-Some.s in
    let big : 2 ^ 17 ≤ 2 ^ s = pow_mono {i = 17} {j = s} (omega (arith, c.if-s-lt17.false)) in
    let other : c.args.stacks ≢ 2 ^ s = λ e. omega (arith, e, big, c.requires) in
    record { value = sym (ap (is_only_stack c.args.stacks) c.in-Some.is ∙ ne_eqb c.args.stacks (2 ^ s) other) }
