use Rattle.std.proofs.Common.{append_assoc}
use Rattle.kc_certfields.proofs.put.put_summary.Goals as goal

-- the three parts in their order
pub returns-clause-text : goal.returns-clause-text
returns-clause-text c =
    rw (c.put_latches.ensures.text, c.put_u64.ensures.text, c.put_u32.ensures.text, ← c.summary.view_is)
    (simp append_assoc)
