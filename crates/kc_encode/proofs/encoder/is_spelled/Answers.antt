-- The ranges of the instruction's numbers come from its type.
use Rattle.std.proofs.Common.{rules}
use Rattle.kc_encode.proofs.Spelled.{IsTyped, canonical-spelled}
use Rattle.kc_encode.proofs.encoder.is_spelled.Goals as goal

pub returns : goal.returns
returns c =
    let typed : IsTyped c.args.insn = search rules in
    canonical-spelled c.args.insn c.args.at c.requires.encodable c.requires.reached typed
