use Rattle.std.proofs.Common.{arith, get_or}
use Rattle.std.specs.Char.{is_ascii_digit}
use Rattle.kc_trace.proofs.DigitLemmas.{decimal_fits, digit_passes, decimal_range}
use Rattle.kc_trace.proofs.number.decimal_value.Goals as goal

pub overflow_mul-value : goal.overflow_mul-value
overflow_mul-value c =
    let fits = decimal_fits c.loop-digit.value c.loop-digit.digit-index 0 c.loop-digit.invariant.bound
    (omega (arith, c.loop-digit-test.true, c.requires.short)) (omega arith) in
    omega (arith, fits)

-- the digit is below 10
pub overflow_add-value : goal.overflow_add-value
overflow_add-value c =
    let passes = digit_passes is_ascii_digit c.args.digits.now c.loop-digit.digit-index 0 c.requires.all
    c.loop-digit-test.true in
    let range = decimal_range (get_or c.args.digits.now c.loop-digit.digit-index 0) passes in
    let is = c.from.ensures in
    let fits = decimal_fits c.loop-digit.value c.loop-digit.digit-index c.from.result c.loop-digit.invariant.bound
    (omega (arith, c.loop-digit-test.true, c.requires.short)) (omega (arith, range.0, range.1, is)) in
    omega (arith, fits)
