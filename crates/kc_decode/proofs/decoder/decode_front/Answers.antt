-- What is left is an end of the bytes.
use Rattle.std.proofs.Common.{arith}
use Rattle.kc_decode.specs.Views.{draft_of}
use Rattle.kc_decode.proofs.Answers.{rest-shorter}
use Rattle.kc_decode.proofs.decoder.decode_front.Goals as goal

pub overflow_sub-len : goal.overflow_sub-len
overflow_sub-len c =
    rest-shorter c.args.bytes.now (draft_of c.in-Ok.found) c.in-Ok.rest.now (λ i. omega (arith, c.type_inv.bytes i))
    c.in-Ok.ensures
