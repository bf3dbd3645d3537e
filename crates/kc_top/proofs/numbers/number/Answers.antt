use Rattle.std.proofs.Common.{◌≡◌, ◌∙◌, true, rules}
use Rattle.std.specs.Char.{is_ascii_digit}
use Rattle.kc_trace.specs.Numbers.{are_digits}
use Rattle.kc_top.proofs.NumberLemmas.{seed-parsed}
use Rattle.kc_top.proofs.numbers.number.Goals as goal

-- the word is 1 to 20 digits
pub returns : goal.returns
returns c =
    let digits : are_digits is_ascii_digit 20 c.args.word.now ≡ true = search rules in
    c.ok.ensures.value ∙ seed-parsed c.args.word.now c.parse.result digits c.parse.ensures.value.0
