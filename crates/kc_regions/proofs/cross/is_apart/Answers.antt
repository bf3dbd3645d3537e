use Rattle.std.proofs.Common.{refl}
use Rattle.kc_regions.proofs.CrossLemmas.{both-parts}
use Rattle.kc_regions.proofs.cross.is_apart.Goals as goal

pub returns-then-meets_none : goal.returns-then-meets_none
returns-then-meets_none c =
    both-parts _ _ c.is_apart_from_tss.result (c.if-meets_none.ensures.0 refl) c.is_apart_from_tss.ensures
