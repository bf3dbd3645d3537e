use Rattle.std.proofs.Common.{arith}
use Rattle.kc_transfer.proofs.MaskLemmas.{parts_apart, parts_within}
use Rattle.kc_transfer.proofs.status.exact_flags.Goals as goal

pub mark-requires-clause-apart : goal.mark-requires-clause-apart
mark-requires-clause-apart c = parts_apart c.args.n c.args.defined (omega arith)

pub mark-requires-clause-within : goal.mark-requires-clause-within
mark-requires-clause-within c = parts_within c.args.n c.args.defined 0x8D5 c.requires
