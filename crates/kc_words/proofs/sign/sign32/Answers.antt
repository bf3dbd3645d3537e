use Rattle.std.proofs.Common.{◌≡◌, rules, arith}
use Rattle.kc_words.specs.Sign.{sign_extended}
use Rattle.kc_words.proofs.SignLemmas.{bit_at-sign_extended}
use Rattle.kc_words.proofs.sign.sign32.Goals as goal

pub returns-clause-bits : goal.returns-clause-bits
returns-clause-bits c i h =
    let value : c.cast_unsigned.result ≡ sign_extended c.args.v = search rules in
    rw value (bit_at-sign_extended c.args.v i (omega arith) h)
