use Rattle.std.proofs.Common.{arith, get_or}
use Rattle.kc_trace.specs.Numbers.{is_lower_digit}
use Rattle.kc_trace.proofs.DigitLemmas.{hex_fits, digit_passes, lower_value}
use Rattle.kc_trace.proofs.number.hexadecimal_value.Goals as goal

pub overflow_mul-value : goal.overflow_mul-value
overflow_mul-value c =
    let fits = hex_fits c.loop-digit.value c.loop-digit.digit-index 0 c.loop-digit.invariant.bound
    (omega (arith, c.loop-digit-test.true, c.requires.short)) (omega arith) in
    omega (arith, fits)

-- the digit is below 16
pub overflow_add-value : goal.overflow_add-value
overflow_add-value c =
    let passes = digit_passes is_lower_digit c.args.digits.now c.loop-digit.digit-index 0 c.requires.all
    c.loop-digit-test.true in
    let low = lower_value (get_or c.args.digits.now c.loop-digit.digit-index 0) passes in
    let is = c.value_of.ensures.value low in
    let fits = hex_fits c.loop-digit.value c.loop-digit.digit-index c.value_of.result c.loop-digit.invariant.bound
    (omega (arith, c.loop-digit-test.true, c.requires.short)) (omega (arith, low, is)) in
    omega (arith, fits)
