use Rattle.std.proofs.Common.{arith}
use Rattle.kc_decode.proofs.Answers.{are-bytes, is-found, is-length, is-only, is-unknown, is-short, is-too_long}
use Rattle.kc_decode.proofs.decoder.decode.Goals as goal

pub returns-clause-found : goal.returns-clause-found
returns-clause-found c =
    is-found c.args.bytes.now c.args.at (are-bytes c.args.bytes.now (λ i. omega (arith, c.type_inv.bytes i)))
    c.decode_front.result c.decode_front.ensures

pub returns-clause-length : goal.returns-clause-length
returns-clause-length c =
    is-length c.args.bytes.now c.args.at (are-bytes c.args.bytes.now (λ i. omega (arith, c.type_inv.bytes i)))
    c.decode_front.result c.decode_front.ensures

pub returns-clause-only : goal.returns-clause-only
returns-clause-only c =
    is-only c.args.bytes.now c.args.at (are-bytes c.args.bytes.now (λ i. omega (arith, c.type_inv.bytes i)))
    c.decode_front.result c.decode_front.ensures

pub returns-clause-unknown : goal.returns-clause-unknown
returns-clause-unknown c =
    is-unknown c.args.bytes.now c.args.at (are-bytes c.args.bytes.now (λ i. omega (arith, c.type_inv.bytes i)))
    c.decode_front.result c.decode_front.ensures

pub returns-clause-short : goal.returns-clause-short
returns-clause-short c =
    is-short c.args.bytes.now c.args.at (are-bytes c.args.bytes.now (λ i. omega (arith, c.type_inv.bytes i)))
    c.decode_front.result c.decode_front.ensures

pub returns-clause-too_long : goal.returns-clause-too_long
returns-clause-too_long c =
    is-too_long c.args.bytes.now c.args.at (are-bytes c.args.bytes.now (λ i. omega (arith, c.type_inv.bytes i)))
    c.decode_front.result c.decode_front.ensures
