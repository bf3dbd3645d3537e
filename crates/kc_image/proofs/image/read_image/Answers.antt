use Rattle.std.proofs.Common.{ℕ, List, subst}
use Rattle.kc_image.specs.Image.{AreApart, segments_at}
use Rattle.kc_image.specs.SymbolSteps.{held_by}
use Rattle.kc_image.proofs.ApartLemmas.{contents_apart}
use Rattle.kc_image.proofs.image.read_image.Goals as goal

pub returns-clause-apart : goal.returns-clause-apart
returns-clause-apart c =
    let parts = c.in_ok-segments in
    subst (λ (file : List ℕ). AreApart (segments_at file parts.segments)) c.deref.ensures.value
    (contents_apart c.deref.result.now (held_by c.deref.result.now parts.segments parts.tables.items)
    parts.ensures.parts)
