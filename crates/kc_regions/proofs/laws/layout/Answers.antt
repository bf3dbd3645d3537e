use Rattle.kc_regions.proofs.LayoutLemmas.{laid}
use Rattle.kc_regions.proofs.laws.layout.Goals as goal

pub returns : goal.returns
returns c = record { laid = laid }
