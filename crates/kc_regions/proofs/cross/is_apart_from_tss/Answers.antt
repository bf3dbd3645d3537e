use Rattle.std.proofs.Common.{sym, ◌∙◌}
use Rattle.kc_regions.proofs.CrossLemmas.{tss_apart-means, tss_apart-from}
use Rattle.kc_regions.proofs.cross.is_apart_from_tss.Goals as goal

pub returns : goal.returns
returns c = (
  λ h. tss_apart-means c.args.tss c.args.word (sym c.tss_apart.ensures ∙ h),
  λ h. c.tss_apart.ensures
      ∙ tss_apart-from c.args.tss c.args.word h,
)
