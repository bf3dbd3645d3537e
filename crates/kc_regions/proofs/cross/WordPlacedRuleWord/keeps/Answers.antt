use Rattle.std.proofs.Common.{refl}
use Rattle.kc_regions.proofs.cross.WordPlacedRuleWord.keeps.Goals as goal

pub returns-then-is_in_area : goal.returns-then-is_in_area
returns-then-is_in_area c = (
  λ h. let apart =
      c.is_apart.ensures.0 h in record { area = c.if-is_in_area.ensures.0 refl; words = apart.0; tss_words = apart.1 },
  λ placed. c.is_apart.ensures.1 (placed.words, placed.tss_words),
)
