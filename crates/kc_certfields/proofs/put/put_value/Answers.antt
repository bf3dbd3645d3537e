use Rattle.std.proofs.Common.{append_assoc}
use Rattle.kc_certfields.proofs.put.put_value.Goals as goal

-- the four parts in their order
pub returns-clause-text : goal.returns-clause-text
returns-clause-text c =
    rw (
      c.put_u32.ensures.text,
      c.put_u64-2.ensures.text,
      c.put_u64.ensures.text,
      c.put_symbol.ensures.text,
      ← c.value.view_is,
      ← c.value-inside.view_is,
    )
    (simp append_assoc)
