use Rattle.std.proofs.Common.{◌-◌, ◌≤◌, ◌∙◌, refl, arith, length, length-set}
use Rattle.kc_text.proofs.DigitsLemmas.{onto-nil, zeros_stay, last_digit, more_digits, rest_less}
use Rattle.kc_text.proofs.digits.write_digits.Goals as goal

pub loop-rest-init : goal.loop-rest-init
loop-rest-init c = (omega arith, omega arith, refl, omega (arith, c.ranges.n.fits), refl, onto-nil c.args.n)

pub returns-then-rest-eq0-clause-zeros : goal.returns-then-rest-eq0-clause-zeros
returns-then-rest-eq0-clause-zeros c =
    let l = c.loop-rest in
    zeros_stay l.at l.rest c.digit.result l.out l.invariant.0 (omega (arith, l.invariant.1, l.invariant.2))
    c.digit.ensures.glyph l.invariant.1 l.invariant.4

pub returns-then-rest-eq0-clause-digits : goal.returns-then-rest-eq0-clause-digits
returns-then-rest-eq0-clause-digits c =
    let l = c.loop-rest in
    last_digit l.at l.rest c.digit.result l.out l.invariant.0 (omega (arith, l.invariant.1, l.invariant.2))
    c.digit.ensures.glyph _ c.if-rest-eq0.true l.invariant.5

pub loop-rest-preserved : goal.loop-rest-preserved
loop-rest-preserved c =
    let l = c.loop-rest in
    let within : l.at ≤ length l.out = omega (arith, l.invariant.1, l.invariant.2) in
    let less = rest_less l.at l.rest l.invariant.3 c.if-rest-eq0.false in (
      less.0,
      omega (arith, l.invariant.1),
      length-set l.out (l.at - 1) c.digit.result ∙ l.invariant.2,
      less.1,
      zeros_stay l.at l.rest c.digit.result l.out l.invariant.0 within c.digit.ensures.glyph l.invariant.1
          l.invariant.4,
      more_digits l.at l.rest c.digit.result l.out l.invariant.0 within c.digit.ensures.glyph _ c.if-rest-eq0.false
          l.invariant.5,
    )
