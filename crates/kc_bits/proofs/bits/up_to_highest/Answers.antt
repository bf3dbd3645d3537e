use Rattle.std.proofs.Common.{◌∙◌, arith}
use Rattle.std.proofs.lemmas.Nat.Bits.{ones_shr}
use Rattle.std.specs.Int.Count.{count_leading_zeros}
use Rattle.kc_bits.proofs.bits.up_to_highest.Goals as goal

pub returns-in-Some : goal.returns-in-Some
returns-in-Some c =
    let r = c.in-Some.ensures in
    r.1 ∙ ones_shr 64 (count_leading_zeros 64 c.args.n) (omega (arith, r.0))
